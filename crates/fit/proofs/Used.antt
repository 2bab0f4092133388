-- The tests of a node's expressions, and what they say of the expressions at the root of its tree.
-- Assumes that expressions name variables below 16 only.
use Rattle.std.proofs.Common.{◌≡◌, ℕ, ◌<◌, Bool, true, false, not, ◌&&◌, ◌||◌, eqb, leb, List, [], ◌∷◌, Some, sym, refl, subst, ⊎_elim}
use Rattle.std.specs.List.{AllByRecursion, list_any}
use Rattle.std.proofs.lemmas.Bool.{or_parts, or_from, and_cases, and_right, not-false, not_from_true, cases_Bool, and_left, both_ways, leb-false, lt-leb}
use Rattle.words.specs.Words.{bytes_of}
use Rattle.language.specs.Meanings.{Meaning, Lawful}
use Rattle.model_rules.specs.Shapes.{Shape}
use Rattle.model_rules.specs.declared.shape.Shape.TheVariants as shape
use Rattle.model.specs.Flat.{Flat}
use Rattle.model.specs.Nodes.{value_in, arguments_from, call_arity, action_arity}
use Rattle.model.specs.Trees.{Tree, planted}
use Rattle.source.specs.Nodes.{words_in}
use Rattle.source.specs.Sound.{Scope, adding, Within}
use Rattle.source.proofs.Words.{words_back}
use Rattle.fit.specs.Scopes.{in_node}
use Rattle.fit.specs.Uses.{uses_beyond, strays}
use Rattle.fit.proofs.Words.{RootIn}

either_not : (a b c : Bool) → ((a || b) && c) ≡ false → ((a && c) ≡ false) × ((b && c) ≡ false)
either_not true b c h = (h, and_right b c h)
either_not false b c h = (refl, h)

neither : (a b c : Bool) → (a && c) ≡ false → (b && c) ≡ false → ((a || b) && c) ≡ false
neither true b c h k = h
neither false b c h k = k

module _ (L : Meaning) (law : Lawful L) where
  -- no expression among es is past the count, and none names x where it is not in scope
  one_to : (S : Scope) (e : ℕ) → leb L.count e ≡ false → ((x : ℕ) → x < 16 → (L.names e x && not (S x)) ≡ false) → Within L S e
  one_to S e b h = (
    leb-false L.count e b,
    λ x n. ⊎_elim (λ (z : L.names e x ≡ false). absurd (both_ways _ z n)) (λ (z : not (S x) ≡ false). not-false (S x) z) (and_cases (L.names e x) (not (S x)) (h x (law.named e x n))),
  )

  one_from : (S : Scope) (e : ℕ) → Within L S e → (leb L.count e ≡ false) × ((x : ℕ) → (L.names e x && not (S x)) ≡ false)
  one_from S e w = (
    lt-leb L.count e w.0,
    λ x. ⊎_elim (λ (z : L.names e x ≡ true). and_right (L.names e x) (not (S x)) (not_from_true (S x) (w.1 x z))) (λ (z : L.names e x ≡ false). and_left (L.names e x) (not (S x)) z) (cases_Bool (L.names e x)),
  )

  list_to : (S : Scope) (es : List ℕ) → list_any (leb L.count) es ≡ false → ((x : ℕ) → x < 16 → (list_any (λ e. L.names e x) es && not (S x)) ≡ false) → AllByRecursion (Within L S) es
  list_to S [] b h = tt
  list_to S (e ∷ es) b h =
      let p = or_parts (leb L.count e) (list_any (leb L.count) es) b in (
        one_to S e p.0 (λ x i. (either_not (L.names e x) (list_any (λ d. L.names d x) es) (not (S x)) (h x i)).0),
        list_to S es p.1 (λ x i. (either_not (L.names e x) (list_any (λ d. L.names d x) es) (not (S x)) (h x i)).1),
      )

  list_from : (S : Scope) (es : List ℕ) → AllByRecursion (Within L S) es → (list_any (leb L.count) es ≡ false) × ((x : ℕ) → (list_any (λ e. L.names e x) es && not (S x)) ≡ false)
  list_from S [] a = (refl, λ x. refl)
  list_from S (e ∷ es) a =
      let p = one_from S e a.0 in
      let q = list_from S es a.1 in
      (or_from (leb L.count e) (list_any (leb L.count) es) p.0 q.0, λ x. neither (L.names e x) (list_any (λ d. L.names d x) es) (not (S x)) (p.1 x) (q.1 x))

  module _ (g : Flat) (n : ℕ) (T : ℕ → Tree) (S : Scope) where
    -- arguments are handed out as bytes
    bytes_to : (es : List ℕ) → list_any (leb L.count) (words_in (bytes_of es)) ≡ false → ((x : ℕ) → x < 16 → (list_any (λ e. L.names e x) (words_in (bytes_of es)) && not (S x)) ≡ false) → AllByRecursion (Within L S) es
    bytes_to es b h = subst (AllByRecursion (Within L S)) (words_back es) (list_to S (words_in (bytes_of es)) b h)

    bytes_from : (es : List ℕ) → AllByRecursion (Within L S) es → (list_any (leb L.count) (words_in (bytes_of es)) ≡ false) × ((x : ℕ) → (list_any (λ e. L.names e x) (words_in (bytes_of es)) && not (S x)) ≡ false)
    bytes_from es a = list_from S (words_in (bytes_of es)) (subst (AllByRecursion (Within L S)) (sym (words_back es)) a)

    pub root_to : (s : Shape) → in_node (uses_beyond L.count) (value_in g (Some s)) ≡ false → ((x : ℕ) → x < 16 → in_node (strays L x (S x)) (value_in g (Some s)) ≡ false) → RootIn L S (planted g n s T)
    root_to (shape.Call p f) b h = bytes_to (arguments_from g f (call_arity g p)) b h
    root_to (shape.Condition e c) b h = one_to S e b h
    root_to (shape.Choice x y) b h = tt
    root_to (shape.Sum v c) b h = tt
    root_to (shape.Action a f v w c) b h =
        let es = arguments_from g f (action_arity g a) in
        let p = or_parts (list_any (leb L.count) (words_in (bytes_of es))) (leb L.count w) b in (
          bytes_to es p.0 (λ x i. (or_parts (list_any (λ e. L.names e x) (words_in (bytes_of es)) && not (S x)) (L.names w x && not (eqb v x || S x)) (h x i)).0),
          one_to (adding v S) w p.1 (λ x i. (or_parts (list_any (λ e. L.names e x) (words_in (bytes_of es)) && not (S x)) (L.names w x && not (eqb v x || S x)) (h x i)).1),
        )
    root_to (shape.Delay r c) b h = one_to S r b h

    pub root_from : (s : Shape) → RootIn L S (planted g n s T) → (in_node (uses_beyond L.count) (value_in g (Some s)) ≡ false) × ((x : ℕ) → in_node (strays L x (S x)) (value_in g (Some s)) ≡ false)
    root_from (shape.Call p f) h = bytes_from (arguments_from g f (call_arity g p)) h
    root_from (shape.Condition e c) h = one_from S e h
    root_from (shape.Choice x y) h = (refl, λ z. refl)
    root_from (shape.Sum v c) h = (refl, λ z. refl)
    root_from (shape.Action a f v w c) h =
        let es = arguments_from g f (action_arity g a) in
        let p = bytes_from es h.0 in
        let q = one_from (adding v S) w h.1 in (
          or_from (list_any (leb L.count) (words_in (bytes_of es))) (leb L.count w) p.0 q.0,
          λ x. or_from (list_any (λ e. L.names e x) (words_in (bytes_of es)) && not (S x)) (L.names w x && not (eqb v x || S x)) (p.1 x) (q.1 x),
        )
    root_from (shape.Delay r c) h = one_from S r h
