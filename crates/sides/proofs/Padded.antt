-- Lists of at most four values in an array of four.
use Rattle.std.proofs.Common.{◌≡◌, ℕ, ◌+◌, ◌<◌, ◌≤◌, min, List, [], ◌∷◌, ◌++◌, map, length, get_or, take, set, sym, refl, ap, ◌∙◌, ap₂, arith}
use lib.ListN.{length-map}
use Rattle.std.proofs.lemmas.List.{take_all, take-take, length-take, map_more}
use Rattle.system.specs.Questions.{padded}
use Rattle.system.specs.declared.answers.Label.{Label}

-- a value more
put_padded : (xs : List ℕ) (v : ℕ) → length xs < 4 → set (padded xs) (length xs) v ≡ padded (xs ++ (v ∷ []))
put_padded [] v h = refl
put_padded (a ∷ []) v h = refl
put_padded (a ∷ (b ∷ [])) v h = refl
put_padded (a ∷ (b ∷ (c ∷ []))) v h = refl
put_padded (a ∷ (b ∷ (c ∷ (d ∷ xs)))) v h = absurd (omega (arith, h))

pub put_next : (f : ℕ → ℕ) (es : List ℕ) (i v : ℕ) (values : List ℕ) → i < length es → i < 4 → values ≡ padded (map f (take i es)) → v ≡ f (get_or es i 0) → set values i v ≡ padded (map f (take (i + 1) es))
put_next f es i v values h few is new =
    let n : length (map f (take i es)) ≡ i = length-map (take i es) f ∙ (length-take i es ∙ omega (arith, h)) in
    ap₂ (λ xs k. set xs k v) is (sym n) ∙ (put_padded (map f (take i es)) v (omega (arith, n, few)) ∙ (ap (λ w. padded (map f (take i es) ++ (w ∷ []))) new ∙ ap padded (sym (map_more f es i 0 h))))

-- all of the first four
front_four : (es : List ℕ) (n : ℕ) → n ≡ min (length es) 4 → take n es ≡ take 4 es
front_four es n e = sym (take-take n 4 es (omega (arith, e))) ∙ take_all n (take 4 es) (omega (arith, e, length-take 4 es))

pub label_is : (f : ℕ → ℕ) (a : ℕ) (es : List ℕ) (n i : ℕ) (values : List ℕ) → n ≡ min (length es) 4 → length (take n es) ≤ i → values ≡ padded (map f (take i (take n es)))
    → ◌≡◌ {A = Label} (record { action = a; count = n; values = values }) (record { action = a; count = length (map f (take 4 es)); values = padded (map f (take 4 es)) })
label_is f a es n i values small end is =
    let m : n ≡ length (map f (take 4 es)) = omega (arith, length-map (take 4 es) f, length-take 4 es, small) in
    let q : values ≡ padded (map f (take 4 es)) = is ∙ ap (λ xs. padded (map f xs)) (take_all i (take n es) end ∙ front_four es n small) in
    ap₂ (λ k vs. record { action = a; count = k; values = vs }) m q
