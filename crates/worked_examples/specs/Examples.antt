-- Worked examples: a queue of at most two, two equal delays, weights.
--     file g           the model file of a flat model; its language is that of the cells beside it
--     Worked           the equations
use Rattle.std.specs.Prelude.{◌≡◌, ℕ, List, [], ◌∷◌, map, Ok, sum_by}
use Rattle.language.specs.Meanings.{Meaning}
use Rattle.formula.specs.Cells.{meaning_of}
use Rattle.formula.specs.Files.{formula_language}
use Rattle.formula.specs.Formats.{formula_bytes}
use Rattle.formula.specs.declared.cell.Cell.{Cell}
use Rattle.formula.specs.declared.cell.Cell.TheVariants.{Constant, Variable, Binary, Choose}
use Rattle.formula.specs.declared.cell.Operation.TheVariants as operation
use Rattle.valuation.specs.Valuations.{cut}
use Rattle.model_rules.specs.declared.shape.Shape.TheVariants as node
use Rattle.model.specs.Accept.{judged}
use Rattle.model.specs.File as model
use Rattle.model.specs.Flat.{Flat, flat}
use Rattle.source.specs.Models.{model_of}
use Rattle.fit.specs.Fitting.{fit_of}
use Rattle.linear.specs.Equations.{Linear}
use Rattle.linear.specs.Layout.{file_of}
use Rattle.linear_side.specs.Meanings.{linear_meaning, linear_delays}
use Rattle.term_side.specs.Meanings.{free_in, term_meaning, term_delays}
use Rattle.system.specs.Systems.{Move, Delay, total}
use Rattle.behaviour.specs.Linearised as linearised

abbrev pub language_of : List Cell → Meaning
language_of cs = meaning_of cs

abbrev pub linear_of : Meaning → List ℕ → Linear
linear_of L bs = linearised.equation_of L (model_of (flat bs))

-- the moves and delays of a term of the model in the file bs
abbrev pub moves_of : Meaning → List ℕ → List ℕ → List Move
moves_of L bs x = (term_meaning L bs (free_in L bs)).moves x

abbrev pub delays_of : Meaning → List ℕ → List ℕ → List Delay
delays_of L bs x = term_delays L bs (free_in L bs) x

-- A queue: while fewer than two wait, a request arrives at rate 3. Cells: its length, 2, whether there is room, 1, one more, 3.
abbrev pub queue_cells : List Cell
queue_cells = Variable 0 ∷ (Constant 2 ∷ (Binary operation.Less 0 1 ∷ (Constant 1 ∷ (Binary operation.Sum 0 3 ∷ (Constant 3 ∷ [])))))

abbrev pub queue : Flat
queue = record {
  sizes = 3 ∷ [];
  processes = record { first = 0; number = 1; body = 0 } ∷ [];
  start = 0;
  values = 0 ∷ [];
  arities = 0 ∷ [];
  nodes = node.Condition 2 1 ∷ (node.Delay 5 2 ∷ (node.Call 0 0 ∷ []));
  arguments = 4 ∷ [];
}

-- Two equal worker lines: a choice between two delays of rate 3, each back to the start.
abbrev pub two_lines : Flat
two_lines = record {
  sizes = [];
  processes = record { first = 0; number = 0; body = 0 } ∷ [];
  start = 0;
  values = [];
  arities = 0 ∷ [];
  nodes = node.Choice 1 3 ∷ (node.Delay 0 2 ∷ (node.Call 0 0 ∷ (node.Delay 0 4 ∷ (node.Call 0 0 ∷ []))));
  arguments = [];
}

-- A balancer's pick between two servers, by the weight that an expression gives each.
abbrev pub pick : Flat
pick = record {
  sizes = 2 ∷ [];
  processes = record { first = 0; number = 0; body = 0 } ∷ [];
  start = 0;
  values = [];
  arities = 0 ∷ [];
  nodes = node.Action 0 0 0 4 1 ∷ (node.Call 0 0 ∷ []);
  arguments = [];
}

-- weights 0, 0; and weights 1, 3, where expression 4 is 1 for server 0 and 3 for server 1
abbrev pub no_weights : List Cell
no_weights = Constant 0 ∷ (Constant 0 ∷ (Constant 0 ∷ (Constant 0 ∷ (Constant 0 ∷ []))))

abbrev pub weights : List Cell
weights = Constant 1 ∷ (Constant 3 ∷ (Variable 0 ∷ (Binary operation.Less 2 0 ∷ (Choose 3 0 1 ∷ []))))

pub record Worked : Type 0 where
  -- 3 − 5 is 0
  pub difference : (language_of (Constant 3 ∷ (Constant 5 ∷ (Binary operation.Difference 0 1 ∷ [])))).value 2 [] ≡ 0
  -- 3 cut to size 3 is 2
  pub cut : cut (3 ∷ []) 0 3 ≡ 2
  -- the queue's files: accepted, and its language fits
  pub queue_accepted : judged (model.file_of queue) ≡ Ok tt
  pub queue_language : formula_language (formula_bytes queue_cells) ≡ Ok (language_of queue_cells)
  pub queue_fits : fit_of (language_of queue_cells) (flat (model.file_of queue)) ≡ Ok tt
  -- its linear file
  pub queue_file : file_of (linear_of (language_of queue_cells) (model.file_of queue)) ≡ 1 ∷ (0 ∷ (0 ∷ (0 ∷ (30 ∷ (0 ∷ (1 ∷ (0 ∷ (3 ∷ (0 ∷ (1 ∷ (0 ∷ (1 ∷ (0 ∷ (0 ∷ (0 ∷ (0 ∷ (0 ∷ (1 ∷ (0 ∷ (1 ∷ (0 ∷ (0 ∷ (0 ∷ (1 ∷ (0 ∷ (2 ∷ (0 ∷ (5 ∷ (0 ∷ (1 ∷ (0 ∷ (2 ∷ (0 ∷ (4 ∷ []))))))))))))))))))))))))))))))))))
  -- it starts at (1, 0), waits there at rate 3 to (1, 1), and has no delay at (1, 2)
  pub queue_starts : (linear_meaning (language_of queue_cells) (linear_of (language_of queue_cells) (model.file_of queue))).start ≡ 1 ∷ (0 ∷ [])
  pub queue_waits : linear_delays (language_of queue_cells) (linear_of (language_of queue_cells) (model.file_of queue)) (1 ∷ (0 ∷ [])) ≡ record { rate = 3; target = 1 ∷ (1 ∷ []) } ∷ []
  pub queue_full : linear_delays (language_of queue_cells) (linear_of (language_of queue_cells) (model.file_of queue)) (1 ∷ (2 ∷ [])) ≡ []
  -- two delays of rate 3 in one choice are two, and sum to 6, on both sides
  pub two_delays : sum_by (λ d. d.rate) (delays_of (language_of (Constant 3 ∷ [])) (model.file_of two_lines) (0 ∷ [])) ≡ 6
  pub two_summands : sum_by (λ d. d.rate) (linear_delays (language_of (Constant 3 ∷ [])) (linear_of (language_of (Constant 3 ∷ [])) (model.file_of two_lines)) (1 ∷ [])) ≡ 6
  -- weights 0, 0 give no move
  pub no_move : moves_of (language_of no_weights) (model.file_of pick) (0 ∷ (0 ∷ [])) ≡ []
  -- weights 1, 3 sum to 4
  pub one_move : map (λ v. total v.outcomes) (moves_of (language_of weights) (model.file_of pick) (0 ∷ (0 ∷ []))) ≡ 4 ∷ []
