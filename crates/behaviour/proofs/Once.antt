-- Scopes in which no variable is bound anew. Assumes nothing.
use Rattle.std.proofs.Common.{◌≡◌, ℕ, suc, ◌≤◌, true, false, eqb, List, [], ◌∷◌, get_or, ap, ⊎_elim, arith}
use Rattle.std.specs.List.{AllByRecursion}
use Rattle.std.proofs.lemmas.Bool.{cases_Bool, or_cases, eqb-true}
use Rattle.language.specs.Meanings.{Meaning}
use Rattle.model.specs.Trees.{Tree, call, when, choice, sum, action, delay}
use Rattle.source.specs.Models.{Process, Model, param}
use Rattle.source.specs.Sound.{Scope, adding, Within, InScope, Fits, Owned, Sound}

-- Two valuations give a variable one value.
abbrev pub Agrees : List ℕ → List ℕ → ℕ → Type 0
Agrees ρ σ x = get_or ρ x 0 ≡ get_or σ x 0

module _ (L : Meaning) where
  -- Every expression names only variables in scope, and no variable is bound where it is in scope.
  abbrev pub Scoped : Scope → Tree → Type 0
  Scoped S (call n p es) = AllByRecursion (Within L S) es
  Scoped S (when n e t) = Within L S e × Scoped S t
  Scoped S (choice n l r) = Scoped S l × Scoped S r
  Scoped S (sum n x t) = (S x ≡ false) × Scoped (adding x S) t
  Scoped S (action n a es x w t) = (S x ≡ false) × AllByRecursion (Within L S) es × Within L (adding x S) w × Scoped (adding x S) t
  Scoped S (delay n r t) = Within L S r × Scoped S t

  abbrev pub Fitted : Model → Type 0
  Fitted m = AllByRecursion (λ q. Scoped (param q) q.body) m.processes

  module _ (owner : ℕ → ℕ) where
    -- what is in scope is bound before node k
    abbrev Before : Scope → ℕ → Type 0
    Before S k = (x : ℕ) → S x ≡ true → owner x ≤ k

    later : (S : Scope) (k n : ℕ) → k ≤ n → Before S k → Before S (suc n)
    later S k n l b x i = let h = b x i in omega arith

    unused : (S : Scope) (k n y : ℕ) → k ≤ n → owner y ≡ suc n → Before S k → S y ≡ false
    unused S k n y l o b = ⊎_elim (λ i. let h = b y i in absurd (omega arith)) (λ e. e) (cases_Bool (S y))

    more : (S : Scope) (k n y : ℕ) → k ≤ n → owner y ≡ suc n → Before S k → Before (adding y S) (suc n)
    more S k n y l o b x i = ⊎_elim (λ e. let q = ap owner (eqb-true y x e) in omega arith) (λ j. let h = b x j in omega arith) (or_cases (eqb y x) (S x) i)

    scoped : (S : Scope) (k : ℕ) (t : Tree) → InScope L S t → Owned owner k t → Before S k → Scoped S t
    scoped S k (call n p es) i o b = i
    scoped S k (when n e t) i o b = (i.0, scoped S (suc n) t i.1 o.1 (later S k n o.0 b))
    scoped S k (choice n l r) i o b = (scoped S (suc n) l i.0 o.1 (later S k n o.0 b), scoped S (suc n) r i.1 o.2 (later S k n o.0 b))
    scoped S k (sum n y t) i o b = (unused S k n y o.0 o.1 b, scoped (adding y S) (suc n) t i o.2 (more S k n y o.0 o.1 b))
    scoped S k (action n a es y w t) i o b = (unused S k n y o.0 o.1 b, i.0, i.1, scoped (adding y S) (suc n) t i.2 o.2 (more S k n y o.0 o.1 b))
    scoped S k (delay n r t) i o b = (i.0, scoped S (suc n) t i.1 o.1 (later S k n o.0 b))

  pub fitted : (m : Model) → Fits L m → Sound m → Fitted m
  fitted m f s = go m.processes f s.owned
    where
      go : (qs : List Process) → AllByRecursion (λ q. InScope L (param q) q.body) qs → AllByRecursion (λ q. ((x : ℕ) → param q x ≡ true → s.owner x ≡ 0) × Owned s.owner 0 q.body) qs → AllByRecursion (λ q. Scoped (param q) q.body) qs
      go [] f o = tt
      go (q ∷ qs) f o = (scoped s.owner (param q) 0 q.body f.0 o.0.1 (λ x i. let h = o.0.0 x i in omega arith), go qs f.1 o.1)
