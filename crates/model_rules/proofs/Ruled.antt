-- The rules have no fault just where the nodes are sound, in a file within its limits.
use Rattle.std.proofs.Common.{◌≡◌, ℕ, ◌<◌, List, Ok, subst, inl, inr}
use Rattle.std.proofs.lemmas.Bool.{ltb-true, lt-ltb}
use Rattle.words.specs.Headers.{Iff}
use Rattle.model_file.specs.declared.layout.Layout.{Layout}
use Rattle.model_file.specs.Fields.{body_of, node_count}
use Rattle.model_file.specs.Layouts.{layout_of}
use Rattle.model_file.specs.Limits.{Limits, InLimits}
use Rattle.model_rules.specs.Rules.{ruled}
use Rattle.model_rules.specs.Sound.{Names, IsNode, Resting, LeadsTo, Soundly, Sound}
use Rattle.model_rules.specs.Shapes.{Shape}
use Rattle.model_rules.specs.declared.shape.Shape.TheVariants.{Call, Condition, Choice, Sum, Action, Delay}
use Rattle.model_rules.proofs.Bound.{once_bound, bound_once}
use Rattle.model_rules.proofs.Held.{Held, rules_held, rules_made}
use Rattle.model_rules.proofs.Moves.{placed_is, placed_made}
use Rattle.model_rules.proofs.Named.{kind_named, names_named, named_made}
use Rattle.model_rules.proofs.Placed.{once_placed, once_made}
use Rattle.model_rules.proofs.Reach.{ways_kept, ways_made}

module _ (bs : List ℕ) (l : Layout) where
  -- what an action or a delay leads to is a node
  led_to : (m n : ℕ) (s : Shape) → Names bs l m s → LeadsTo s n → n < node_count bs l
  led_to m n (Call p f) names h = absurd h
  led_to m n (Condition x c) names h = absurd h
  led_to m n (Choice x y) names h = absurd h
  led_to m n (Sum v c) names h = absurd h
  led_to m n (Action a f v w c) names h = subst (λ k. k < node_count bs l) h names.3.1
  led_to m n (Delay r c) names h = subst (λ k. k < node_count bs l) h names.1

  rested : Held bs l → (n : ℕ) → Resting bs l n → n < node_count bs l
  rested m n (inl (i, is)) = subst (λ k. k < node_count bs l) is.1 (ltb-true (body_of bs l i) (node_count bs l) (m.bodies i is.0))
  rested m n (inr (go, none)) = led_to go.0 n go.1 (names_named bs l go.0 go.1 go.2 (m.names go.0 go.2.0)) go.3

  pub soundly : Held bs l → Soundly bs l
  soundly m =
      let names : (n : ℕ) (s : Shape) → IsNode bs l n s → Names bs l n s = λ n s is. names_named bs l n s is (m.names n is.0) in
      record {
        bodies = λ i low. ltb-true (body_of bs l i) (node_count bs l) (m.bodies i low);
        kinds = λ n low. kind_named bs l n low (m.names n low);
        names = names;
        placed = λ n low. once_placed bs l n (m.nodes n low);
        bound = λ v low. once_bound bs l v (m.variables v low);
        calls = λ n call. placed_is bs l n (m.calls n call.2.0) call;
        ways = λ n e s c p rests w ends. let low = rested m n rests in ways_kept bs l names n e s c p low (m.ways n low) rests w;
      }

  pub held : Limits bs l → Soundly bs l → Held bs l
  held limits m = record {
    bodies = λ i low. lt-ltb (body_of bs l i) (node_count bs l) (m.bodies i low);
    names = λ n low. let k = m.kinds n low in named_made bs l n k.0 k.1 (m.names n k.0 k.1);
    nodes = λ n low. once_made bs l n (m.placed n low);
    variables = λ v low. bound_once bs l v (m.bound v low);
    calls = λ n low. placed_made bs l n low (m.calls n);
    ways = λ n low. ways_made bs l (λ v small. (limits.sizes v small).0) m.bodies m.kinds m.names m.placed m.calls n low (λ e s c p rests w ends. m.ways n e s c p rests w ends);
  }

pub rules_are : (bs : List ℕ) → InLimits bs → Iff (ruled bs ≡ Ok tt) (Sound bs)
rules_are bs limits =
    (λ ok. soundly bs (layout_of bs) (rules_held bs (layout_of bs) ok), λ m. rules_made bs (layout_of bs) (held bs (layout_of bs) limits m))
