-- The theorem: the equation of a model behaves as the model, under every lawful data language that fits it.
--     BehavesAs L bs E    the equation E behaves as the model whose file is bs, where expressions mean L: over the very lists by which
--                         the linear side of E and the term side of the model answer, and the very run that a walk's calls make
use Rattle.std.specs.Prelude.{ℕ, List}
use Rattle.language.specs.Meanings.{Meaning, Lawful}
use Rattle.linear.specs.Equations.{Linear}
use Rattle.linear_side.specs.Meanings.{linear_meaning, linear_delays}
use Rattle.model.specs.Flat.{flat}
use Rattle.model.specs.Trees.{tree_of}
use Rattle.model.specs.WellFormed.{WellFormed}
use Rattle.source.specs.Models.{model_of}
use Rattle.source.specs.Sound.{Fits}
use Rattle.term_side.specs.Meanings.{term_words, free_in, term_meaning, term_delays}
use Rattle.system.specs.Systems as system
use Rattle.behaviour.specs.Behaves.{Behaves}
use Rattle.behaviour.specs.Linearised.{equation_of}
use Rattle.behaviour.specs.Sides.{stands_for}

abbrev pub BehavesAs : Meaning → List ℕ → Linear → Type 0
BehavesAs L bs E =
    Behaves L (model_of (flat bs)) (tree_of (flat bs))
    (linear_meaning L E) (linear_delays L E) (term_meaning L bs (free_in L bs)) (term_delays L bs (free_in L bs))
    (stands_for L (model_of (flat bs))) term_words

abbrev pub EquationBehaves : Type 0
EquationBehaves =
    (L : Meaning) (bs : List ℕ) → Lawful L → WellFormed bs → Fits L (model_of (flat bs))
    → system.Sound (linear_meaning L (equation_of L (model_of (flat bs)))) → system.SoundDelays (linear_meaning L (equation_of L (model_of (flat bs)))) (linear_delays L (equation_of L (model_of (flat bs))))
    → BehavesAs L bs (equation_of L (model_of (flat bs)))
