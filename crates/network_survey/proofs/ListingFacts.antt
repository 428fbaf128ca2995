-- Lists of all that meet a definition: no more, one more, and those of them that are selected.
use Rattle.std.proofs.Common.{◌≡◌, ℕ, ◌<◌, List, [], ◌∷◌, ◌++◌, length, get_or, Contains, ◌⊎◌, ⊎_elim, subst, arith}
use Rattle.std.proofs.lemmas.List.Quantifiers.{all_pairs_push}
use Rattle.std.proofs.lemmas.List.Elements.{Contains-push, Contains-push_cases, Contains-append_left}
use Rattle.std.proofs.lemmas.List.{get_or_default}
use Rattle.net_model.proofs.Members.{Contains-none}
use Rattle.network_survey.specs.Listings.{ListsAll}

pub Contains-at : {A : Type 0} → (xs : List A) (k : ℕ) (d : A) → k < length xs → Contains xs (get_or xs k d)
Contains-at xs k d l = (k, l, get_or_default xs k _ d l)

-- the list of none
pub ListsAll-none : {A : Type 0} → (Before : A → A → Type 0) (P : A → Type 0) → ((x : A) → P x → ⊥) → ListsAll Before P []
ListsAll-none Before P none = record { exact = λ x. (λ c. absurd (Contains-none x c), λ p. absurd (none x p)); ascending = λ i j d l m. absurd (omega arith) }

-- the same list, of what holds of the same
pub ListsAll-same : {A : Type 0} → (Before : A → A → Type 0) (P Q : A → Type 0) (xs : List A) →
    ((x : A) → P x → Q x) → ((x : A) → Q x → P x) → ListsAll Before P xs → ListsAll Before Q xs
ListsAll-same Before P Q xs into back lists = record {
  exact = λ x. (λ c. into x ((lists.exact x).0 c), λ q. (lists.exact x).1 (back x q));
  ascending = lists.ascending;
}

-- one more, behind all others
pub ListsAll-push : {A : Type 0} → (Before : A → A → Type 0) (P Q : A → Type 0) (xs : List A) (y : A) →
    ((x : A) → P x → Q x) → ((x : A) → Q x → P x ⊎ (y ≡ x)) → Q y → ((x : A) → P x → Before x y) →
    ListsAll Before P xs → ListsAll Before Q (xs ++ y ∷ [])
ListsAll-push Before P Q xs y into back here behind lists = record {
  exact = λ x. (
    λ c. ⊎_elim (λ old. into x ((lists.exact x).0 old)) (λ e. subst Q e here) (Contains-push_cases xs y x c),
    λ q. ⊎_elim (λ p. Contains-append_left xs _ x ((lists.exact x).1 p)) (λ e. subst (Contains (xs ++ y ∷ [])) e (Contains-push xs y)) (back x q),
  );
  ascending = all_pairs_push Before xs y lists.ascending (λ k d l. behind _ ((lists.exact _).0 (Contains-at xs k d l)));
}
