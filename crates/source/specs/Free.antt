-- Free variables of a tree.
--     named L t x    the tree from there down names x
--     bound t x      it binds x
--     free L t x     it names x and does not bind it
--     FreeAt L t x   in words: some node from there down uses an expression that names x, and none there binds x
--     FreeMeans      free is FreeAt
use Rattle.std.specs.Prelude.{◌≡◌, ℕ, Bool, true, false, not, ◌&&◌, ◌||◌, ◌⊎◌, List, Some, ◌==◌}
use Rattle.std.specs.List.{slice_get, list_any}
use Rattle.language.specs.Meanings.{Meaning}
use Rattle.model.specs.Trees.{Tree, call, when, choice, sum, action, delay}

module _ (L : Meaning) where
  abbrev pub named_in : List ℕ → ℕ → Bool
  named_in es x = list_any (λ e. L.names e x) es

  -- The tree from there down names x; binds x.
  abbrev pub named : Tree → ℕ → Bool
  named (call n p es) x = named_in es x
  named (when n e t) x = L.names e x || named t x
  named (choice n l r) x = named l x || named r x
  named (sum n y t) x = named t x
  named (action n a es y w t) x = named_in es x || (L.names w x || named t x)
  named (delay n r t) x = L.names r x || named t x

abbrev pub bound : Tree → ℕ → Bool
bound (call n p es) x = false
bound (when n e t) x = bound t x
bound (choice n l r) x = bound l x || bound r x
bound (sum n y t) x = y == x || bound t x
bound (action n a es y w t) x = y == x || bound t x
bound (delay n r t) x = bound t x

abbrev pub free : Meaning → Tree → ℕ → Bool
free L t x = named L t x && not (bound t x)

-- u is t, or stands below it.
pub data Sub (u : Tree) : Tree → Type 0 where
  here : Sub u u
  in_when : {n e : ℕ} {t : Tree} → Sub u t → Sub u (when n e t)
  in_left : {n : ℕ} {l r : Tree} → Sub u l → Sub u (choice n l r)
  in_right : {n : ℕ} {l r : Tree} → Sub u r → Sub u (choice n l r)
  in_sum : {n x : ℕ} {t : Tree} → Sub u t → Sub u (sum n x t)
  in_action : {n a : ℕ} {es : List ℕ} {x w : ℕ} {t : Tree} → Sub u t → Sub u (action n a es x w t)
  in_delay : {n r : ℕ} {t : Tree} → Sub u t → Sub u (delay n r t)

-- The node at the root uses expression e; binds variable x.
abbrev pub Uses : Tree → ℕ → Type 0
Uses (call n p es) e = (k : ℕ) × (slice_get es k ≡ Some e)
Uses (when n c t) e = c ≡ e
Uses (choice n l r) e = ⊥
Uses (sum n x t) e = ⊥
Uses (action n a es x w t) e = ((k : ℕ) × (slice_get es k ≡ Some e)) ⊎ (w ≡ e)
Uses (delay n r t) e = r ≡ e

abbrev pub BindsIt : Tree → ℕ → Type 0
BindsIt (call n p es) x = ⊥
BindsIt (when n c t) x = ⊥
BindsIt (choice n l r) x = ⊥
BindsIt (sum n y t) x = y ≡ x
BindsIt (action n a es y w t) x = y ≡ x
BindsIt (delay n r t) x = ⊥

abbrev pub FreeAt : Meaning → Tree → ℕ → Type 0
FreeAt L t x = ((u : Tree) × (e : ℕ) × Sub u t × Uses u e × (L.names e x ≡ true)) × ((u : Tree) → Sub u t → BindsIt u x → ⊥)

abbrev pub FreeMeans : Type 0
FreeMeans = (L : Meaning) (t : Tree) (x : ℕ) → (free L t x ≡ true → FreeAt L t x) × (FreeAt L t x → free L t x ≡ true)
