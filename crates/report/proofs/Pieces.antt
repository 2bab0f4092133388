-- A text that grows piece by piece. Assumes nothing.
use Rattle.std.proofs.Common.{◌≡◌, ℕ, suc, ◌+◌, List, [], ◌∷◌, ◌++◌, OnOk, Ok, Err, Result, is_ok, if◌then◌else◌, sym, ap, ◌∙◌, add-one, append_assoc}

-- a text of the pieces below n, with piece n behind it, is the text of the pieces below n + 1
pub pieces_more : (all piece : ℕ → List ℕ) → ((n : ℕ) → all (suc n) ≡ all n ++ piece n) → (n : ℕ) (before after : List ℕ) → before ≡ all n → after ≡ before ++ piece n → after ≡ all (n + 1)
pieces_more all piece more n before after is put = put ∙ ap (λ b. b ++ piece n) is ∙ sym (more n) ∙ ap all (sym (add-one n))

-- a line of two numbers and what stands behind them, put in three steps of which the last may fail
pub line_put : {E : Type 0} (r : Result (Unit {0}) E) (old e v names x y z : List ℕ) → x ≡ old ++ (e ++ (32 ∷ v)) → y ≡ x ++ names → z ≡ (if is_ok r then (y ++ (10 ∷ [])) else y)
    → OnOk r (z ≡ old ++ (((e ++ (32 ∷ []) ++ v) ++ names) ++ (10 ∷ [])))
line_put (Err u) old e v names x y z a b c = tt
line_put (Ok u) old e v names x y z a b c =
    c ∙ ap (λ t. t ++ (10 ∷ [])) (b ∙ ap (λ t. t ++ names) (a ∙ ap (λ t. old ++ t) (sym (append_assoc e (32 ∷ []) v))) ∙ append_assoc old (e ++ (32 ∷ []) ++ v) names)
    ∙ append_assoc old ((e ++ (32 ∷ []) ++ v) ++ names) (10 ∷ [])
