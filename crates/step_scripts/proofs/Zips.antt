-- Two lists whose items are related place by place.
use Rattle.std.proofs.Common.{◌≡◌, ℕ, zero, suc, ◌<◌, List, [], ◌∷◌, ◌++◌, length, get_or, take, Any, Contains, refl, ap, subst, ◌∙◌}
use Rattle.std.proofs.Common.{arith}
use Rattle.std.specs.List.{AllZip}
use Rattle.std.proofs.lemmas.List.{get_or_default}
use Rattle.std.proofs.lemmas.Slice.Zip.{AllZip-long}
use Rattle.step_scripts.specs.WaveFiles.{all_in}

pub zip_at : {A B : Type 0} (R : A → B → Type 0) (xs : List A) (ys : List B) (k : ℕ) (d : A) (e : B) → AllZip R xs ys → k < length xs →
    R (get_or xs k d) (get_or ys k e)
zip_at R [] ys k d e h l = absurd (omega (arith, l))
zip_at R (x ∷ xs) [] k d e h l = absurd h
zip_at R (x ∷ xs) (y ∷ ys) zero d e h l = h.0
zip_at R (x ∷ xs) (y ∷ ys) (suc k) d e h l = zip_at R xs ys k d e h.1 (omega (arith, l))

-- where each item has one partner, the lists of partners are one
pub zip_unique : {A B : Type 0} (R : A → B → Type 0) → ((x : A) (y z : B) → R x y → R x z → y ≡ z) → (xs : List A) (ys zs : List B) →
    AllZip R xs ys → AllZip R xs zs → ys ≡ zs
zip_unique R one [] [] [] h k = refl
zip_unique R one [] [] (z ∷ zs) h k = absurd k
zip_unique R one [] (y ∷ ys) zs h k = absurd h
zip_unique R one (x ∷ xs) [] zs h k = absurd h
zip_unique R one (x ∷ xs) (y ∷ ys) [] h k = absurd k
zip_unique R one (x ∷ xs) (y ∷ ys) (z ∷ zs) h k =
    ap (λ a. a ∷ ys) (one x y z h.0 k.0) ∙ ap (λ l. z ∷ l) (zip_unique R one xs ys zs h.1 k.1)

pub zip_append : {A B : Type 0} (R : A → B → Type 0) (xs : List A) (ys : List B) (us : List A) (vs : List B) → AllZip R xs ys → AllZip R us vs →
    AllZip R (xs ++ us) (ys ++ vs)
zip_append R [] [] us vs h k = k
zip_append R [] (y ∷ ys) us vs h k = absurd h
zip_append R (x ∷ xs) [] us vs h k = absurd h
zip_append R (x ∷ xs) (y ∷ ys) us vs h k = (h.0, zip_append R xs ys us vs h.1 k)

-- lists of lists that are related place by place, end to end
pub zip_flat : {A B : Type 0} (R : A → B → Type 0) (xs : List (List A)) (ys : List (List B)) → AllZip (AllZip R) xs ys →
    AllZip R (all_in xs) (all_in ys)
zip_flat R [] [] h = tt
zip_flat R [] (y ∷ ys) h = absurd h
zip_flat R (x ∷ xs) [] h = absurd h
zip_flat R (x ∷ xs) (y ∷ ys) h = zip_append R x y (all_in xs) (all_in ys) h.0 (zip_flat R xs ys h.1)

pub zip_take : {A B : Type 0} (R : A → B → Type 0) (k : ℕ) (xs : List A) (ys : List B) → AllZip R xs ys → AllZip R (take k xs) (take k ys)
zip_take R zero xs ys h = tt
zip_take R (suc k) [] [] h = tt
zip_take R (suc k) [] (y ∷ ys) h = absurd h
zip_take R (suc k) (x ∷ xs) [] h = absurd h
zip_take R (suc k) (x ∷ xs) (y ∷ ys) h = (h.0, zip_take R k xs ys h.1)

-- an item of the one list has a partner in the other
pub zip_partner : {A B : Type 0} (R : A → B → Type 0) (xs : List A) (ys : List B) (x : A) (e : B) → AllZip R xs ys → Contains xs x → Any (R x) ys
zip_partner R xs ys x e h c =
    let within : c.0 < length ys = omega (arith, c.1, AllZip-long R xs ys h) in
    let y = get_or ys c.0 e in
    (c.0, y, within, get_or_default ys c.0 y e within, subst (λ v. R v y) c.2 (zip_at R xs ys c.0 x e h c.1))

-- and the other way round
pub zip_item : {A B : Type 0} (R : A → B → Type 0) (xs : List A) (ys : List B) (y : B) (d : A) → AllZip R xs ys → Contains ys y → Any (λ x. R x y) xs
zip_item R xs ys y d h c =
    let within : c.0 < length xs = omega (arith, c.1, AllZip-long R xs ys h) in
    let x = get_or xs c.0 d in
    (c.0, x, within, get_or_default xs c.0 x d within, subst (R x) c.2 (zip_at R xs ys c.0 d y h within))

-- lists of one length whose items are related place by place
pub zip_from : {A B : Type 0} (R : A → B → Type 0) (xs : List A) (ys : List B) (d : A) (e : B) → length xs ≡ length ys →
    ((k : ℕ) → k < length xs → R (get_or xs k d) (get_or ys k e)) → AllZip R xs ys
zip_from R [] [] d e long each = tt
zip_from R [] (y ∷ ys) d e long each = absurd (omega (arith, long))
zip_from R (x ∷ xs) [] d e long each = absurd (omega (arith, long))
zip_from R (x ∷ xs) (y ∷ ys) d e long each = (each 0 (omega arith), zip_from R xs ys d e (omega (arith, long)) (λ k l. each (suc k) (omega (arith, l))))
