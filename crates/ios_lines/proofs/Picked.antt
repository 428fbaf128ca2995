-- What holds of each element of a list, through the ways in which lines are picked.
use Rattle.std.proofs.lemmas.Grind.{common_steps}
use Rattle.std.proofs.Common.{◌≡◌, ◌≢◌, zero, suc, Bool, true, false, not, List, [], ◌∷◌, Option, Some, None, refl, cond, map, bytes_eq, arith}
use Rattle.std.specs.Prelude.{IfSome, All, AllPairs, filter_map, flat_map, fold, filter}
use Rattle.std.specs.List.{cons_option}
use Rattle.std.proofs.lemmas.Bool.{false≢true}
use Rattle.std.proofs.lemmas.Slice.Eq.{bytes_eq-Decides}
use Rattle.std.proofs.lemmas.List.Elements.{All-nil, All-cons, All-head, All-tail, All-append, All-map, All-weaker, filter_passes}
use Rattle.std.proofs.lemmas.List.Kept.{AllPairs-cons, AllPairs-filter}
use Rattle.ios_lines.specs.Words.{Word}
use Rattle.ios_lines.specs.Lookups.{later, last_of, replaced, first_seen}

-- what holds of both choices
pub by_if : {A : Type 0} (P : A → Type 0) (b : Bool) (x y : A) → P x → P y → P (cond b x y)
by_if P true x y p q = p
by_if P false x y p q = q

-- what holds of a value that is there
pub by_some : {A : Type 0} (P : A → Type 0) (o : Option A) → ((a : A) → o ≡ Some a → P a) → IfSome o P
by_some P o h = grind (arith, common_steps)

taken_cases : {B : Type 0} (Q : B → Type 0) (o : Option B) (ys : List B) → IfSome o Q → All Q ys → All Q (cons_option o ys)
taken_cases Q None ys q r = r
taken_cases Q (Some y) ys q r = All-cons Q y ys q r

-- the lines of a form
pub all_taken : {A : Type 0} {B : Type 0} (form : A → Option B) (P : A → Type 0) (Q : B → Type 0) → ((a : A) → P a → IfSome (form a) Q) → (xs : List A) →
    All P xs → All Q (filter_map form xs)
all_taken form P Q keep [] h = All-nil Q
all_taken form P Q keep (x ∷ xs) h =
    taken_cases Q (form x) (filter_map form xs) (keep x (All-head P x xs h)) (all_taken form P Q keep xs (All-tail P x xs h))

-- the lines of sections
pub all_flat : {A : Type 0} {B : Type 0} (f : A → List B) (P : A → Type 0) (Q : B → Type 0) → ((a : A) → P a → All Q (f a)) → (xs : List A) → All P xs →
    All Q (flat_map f xs)
all_flat f P Q keep [] h = All-nil Q
all_flat f P Q keep (x ∷ xs) h =
    All-append Q (f x) (flat_map f xs) (keep x (All-head P x xs h)) (all_flat f P Q keep xs (All-tail P x xs h))

-- what each step of a fold keeps
pub fold_keeps : {A : Type 0} {B : Type 0} (P : B → Type 0) (Q : A → Type 0) (f : B → A → B) → ((b : B) (a : A) → P b → Q a → P (f b a)) →
    (b : B) (xs : List A) → P b → All Q xs → P (fold f b xs)
fold_keeps P Q f keep b [] p h = p
fold_keeps P Q f keep b (x ∷ xs) p h = fold_keeps P Q f keep (f b x) xs (keep b x p (All-head Q x xs h)) (All-tail Q x xs h)

later_keeps : {A : Type 0} (Q : A → Type 0) (a b : Option A) → IfSome a Q → IfSome b Q → IfSome (later a b) Q
later_keeps Q a None p q = p
later_keeps Q a (Some x) p q = q

-- the last line of a form
pub last_keeps : {A : Type 0} {B : Type 0} (form : A → Option B) (P : A → Type 0) (Q : B → Type 0) → ((a : A) → P a → IfSome (form a) Q) → (xs : List A) →
    All P xs → IfSome (last_of form xs) Q
last_keeps form P Q keep [] h = tt
last_keeps form P Q keep (x ∷ xs) h =
    later_keeps Q (form x) (last_of form xs) (keep x (All-head P x xs h)) (last_keeps form P Q keep xs (All-tail P x xs h))

-- ---- each two elements ----

pairs_nil : {A : Type 0} (R : A → A → Type 0) → AllPairs R []
pairs_nil R = λ i j d p q. absurd (omega arith)

pairs_head : {A : Type 0} (R : A → A → Type 0) (x : A) (xs : List A) → AllPairs R (x ∷ xs) → All (R x) xs
pairs_head R x xs h = λ k d lt. h zero (suc k) d (omega arith) (omega arith)

pairs_tail : {A : Type 0} (R : A → A → Type 0) (x : A) (xs : List A) → AllPairs R (x ∷ xs) → AllPairs R xs
pairs_tail R x xs h = λ i j d p q. h (suc i) (suc j) d (omega arith) (omega arith)

-- each two values of a function
pub pairs_map : {A : Type 0} {B : Type 0} (R : B → B → Type 0) (f : A → B) (xs : List A) → AllPairs (λ (x y : A). R (f x) (f y)) xs → AllPairs R (map f xs)
pairs_map R f [] h = pairs_nil R
pairs_map {A} R f (x ∷ xs) h =
    AllPairs-cons R (f x) (map f xs)
    (All-map (R (f x)) f xs (pairs_head (λ (y z : A). R (f y) (f z)) x xs h))
    (pairs_map R f xs (pairs_tail (λ (y z : A). R (f y) (f z)) x xs h))

-- a value in the place of the same one, or at the end
pub all_replaced : {A : Type 0} (P : A → Type 0) (same : A → A → Bool) (xs : List A) (x : A) → All P xs → P x → All P (replaced same xs x)
all_replaced P same [] x h p = All-cons P x [] p h
all_replaced {A} P same (y ∷ ys) x h p =
    by_if (λ (w : List A). All P w) (same y x) (x ∷ ys) (y ∷ replaced same ys x)
    (All-cons P x ys p (All-tail P y ys h))
    (All-cons P y (replaced same ys x) (All-head P y ys h) (all_replaced P same ys x (All-tail P y ys h) p))

replaced_cases : {A : Type 0} (R : A → A → Type 0) (same : A → A → Bool) →
    ((y x z : A) → same y x ≡ true → R y z → R x z) → ((y x : A) → same y x ≡ false → R y x) →
    (t : Bool) (y x : A) (ys : List A) → same y x ≡ t → AllPairs R (y ∷ ys) → AllPairs R (replaced same ys x) →
    AllPairs R (cond t (x ∷ ys) (y ∷ replaced same ys x))
replaced_cases R same takes apart true y x ys e h later =
    AllPairs-cons R x ys (All-weaker (R y) (R x) (λ z r. takes y x z e r) ys (pairs_head R y ys h)) (pairs_tail R y ys h)
replaced_cases R same takes apart false y x ys e h later =
    AllPairs-cons R y (replaced same ys x) (all_replaced (R y) same ys x (pairs_head R y ys h) (apart y x e)) later

-- values each in the place of the same one stay apart
pub pairs_replaced : {A : Type 0} (R : A → A → Type 0) (same : A → A → Bool) →
    ((y x z : A) → same y x ≡ true → R y z → R x z) → ((y x : A) → same y x ≡ false → R y x) →
    (xs : List A) (x : A) → AllPairs R xs → AllPairs R (replaced same xs x)
pairs_replaced R same takes apart [] x h = AllPairs-cons R x [] (All-nil (R x)) h
pairs_replaced R same takes apart (y ∷ ys) x h =
    replaced_cases R same takes apart (same y x) y x ys refl h (pairs_replaced R same takes apart ys x (pairs_tail R y ys h))

-- ---- names, each once ----

other : (n m : Word) → not (bytes_eq n m) ≡ true → n ≢ m
other n m e = grind (arith, common_steps, bytes_eq-Decides, false≢true)

pub names_apart : (ns : List Word) → AllPairs (λ (n m : Word). n ≢ m) (first_seen ns)
names_apart [] = pairs_nil (λ (n m : Word). n ≢ m)
names_apart (n ∷ ns) =
    AllPairs-cons (λ (a b : Word). a ≢ b) n (filter (λ (m : Word). not (bytes_eq n m)) (first_seen ns))
    (All-weaker (λ (m : Word). not (bytes_eq n m) ≡ true) (λ (m : Word). n ≢ m) (λ m e. other n m e)
    (filter (λ (m : Word). not (bytes_eq n m)) (first_seen ns)) (filter_passes (λ (m : Word). not (bytes_eq n m)) (first_seen ns)))
    (AllPairs-filter (λ (a b : Word). a ≢ b) (λ (m : Word). not (bytes_eq n m)) (first_seen ns) (names_apart ns))
