-- What the names among plain words give the positionals of a command.
use Rattle.std.proofs.Common.{◌≡◌, ◌∙◌, ℕ, suc, Bool, true, false, cond, List, [], ◌∷◌, ◌++◌, map, Option, Some, None, option_map, refl, sym, ap, ap₂, subst, bytes_eq, true≢false}
use Rattle.std.specs.Prelude.{◌&&◌, ◌||◌, ◌==◌}
use Rattle.std.specs.List.{list_all}
use Rattle.std.proofs.lemmas.Bool.{eqb-true}
use Rattle.clap.proofs.SimpleLemmas.{is_false}
use Rattle.clap.proofs.WalkLemmas.{both}
use Rattle.clap.specs.Simple.{Shape}
use Rattle.clap.specs.Walk.{Text, next_position}
use Rattle.hpr_words.specs.Plain.{first_names, fits_list, is_among, names_left}
use Rattle.hpr_words.proofs.FormTests.{are_own, are_places, have_own_ids, is_no_list, is_not, no_list_among, takes_words, words_taken}
use Rattle.hpr_words.proofs.PieceLemmas.{Each, HavePlaces, given-list, given-no_list, given_names, list_places, none_some, rule_at}
use Rattle.hpr_words.proofs.RowLemmas.{is_same, same_text}

-- ---- what is so of each in a list

pub list_each : {X : Type 0} (test : X → Bool) (P : X → Type 0) → ((x : X) → test x ≡ true → P x) → (xs : List X) → list_all test xs ≡ true → Each P xs
list_each test P so [] e = tt
list_each test P so (x ∷ xs) e =
    let parts = both (test x) _ e in
    (so x parts.0, list_each test P so xs parts.1)

pub each_map : {X Y : Type 0} (f : X → Y) (P : Y → Type 0) (xs : List X) → Each (λ x. P (f x)) xs → Each P (map f xs)
each_map f P [] each = tt
each_map f P (x ∷ xs) each = (each.0, each_map f P xs each.1)

pub each_both : {X : Type 0} (P Q R : X → Type 0) → ((x : X) → P x → Q x → R x) → (xs : List X) → Each P xs → Each Q xs → Each R xs
each_both P Q R so [] p q = tt
each_both P Q R so (x ∷ xs) p q = (so x p.0 q.0, each_both P Q R so xs p.1 q.1)

pub each_so : {X : Type 0} (P R : X → Type 0) → ((x : X) → P x → R x) → (xs : List X) → Each P xs → Each R xs
each_so P R so xs p = each_both P P R (λ x p q. so x p) xs p p

pub all_so : {X : Type 0} (test other : X → Bool) → ((x : X) → test x ≡ true → other x ≡ true) → (xs : List X) → list_all test xs ≡ true → list_all other xs ≡ true
all_so test other so [] e = refl
all_so test other so (x ∷ xs) e =
    let parts = both (test x) _ e in
    ap₂ (λ b c. b && c) (so x parts.0) (all_so test other so xs parts.1)

-- ---- the positionals

-- each of these arguments is given one name, in order
abbrev pub Gives : (Text → List Text) → List Text → List Text → Type 0
Gives g [] ns = Unit {0}
Gives g (id ∷ ids) [] = ⊥
Gives g (id ∷ ids) (n ∷ ns) = (g id ≡ n ∷ []) × Gives g ids ns

pub gives_same : (g h : Text → List Text) (ids ns : List Text) → Each (λ id. h id ≡ g id) ids → Gives g ids ns → Gives h ids ns
gives_same g h [] ns same gives = tt
gives_same g h (id ∷ ids) [] same gives = gives
gives_same g h (id ∷ ids) (n ∷ ns) same gives = (same.0 ∙ gives.0, gives_same g h ids ns same.1 gives.1)

pub gives_among : (P : List Text → Type 0) → ((n : Text) → P (n ∷ [])) → (g : Text → List Text) (ids ns : List Text) → Gives g ids ns → (id : Text) → is_among id ids ≡ true → P (g id)
gives_among P single g [] ns gives id e = absurd (true≢false (sym e))
gives_among P single g (x ∷ ids) [] gives id e = absurd gives
gives_among P single g (x ∷ ids) (n ∷ ns) gives id e = go (bytes_eq id x) refl (λ f. gives_among P single g ids ns gives.1 id f) e
  where
    go : (b : Bool) → bytes_eq id x ≡ b → (is_among id ids ≡ true → P (g id)) → (b || is_among id ids) ≡ true → P (g id)
    go true same later f = subst (λ i. P (g i)) (sym (is_same id x same)) (subst P (sym gives.0) (single n))
    go false same later f = later f

some_before : {X Y : Type 0} (f : X → Y) (o : Option X) (y : Y) → option_map f o ≡ Some y → (x : X) × (o ≡ Some x)
some_before f None y e = absurd (none_some y e)
some_before f (Some x) y e = (x, refl)

other_way : (x y : Text) → bytes_eq x y ≡ false → bytes_eq y x ≡ false
other_way x y e = go (bytes_eq y x) refl
  where
    go : (b : Bool) → bytes_eq y x ≡ b → b ≡ false
    go true f = sym (ap (bytes_eq x) (is_same y x f) ∙ same_text x) ∙ e
    go false f = refl

-- the first of the places
record IsPlace (s : Shape) (position : ℕ) (id : Text) (ids : List Text) (list : Option (Text × Bool)) : Type 0 where
  pub id_is : (rule_at s position).id ≡ id
  pub takes : takes_words s position ≡ true
  pub next : next_position (rule_at s position) position ≡ suc position
  pub later : are_places s (suc position) ids list ≡ true

place_is : (s : Shape) (position : ℕ) (id : Text) (ids : List Text) (list : Option (Text × Bool)) → are_places s position (id ∷ ids) list ≡ true → IsPlace s position id ids list
place_is s position id ids list e =
    let same = both (bytes_eq (rule_at s position).id id) _ e in
    let takes = both (takes_words s position) _ same.1 in
    let next = both (next_position (rule_at s position) position == suc position) _ takes.1 in
    record { id_is = is_same _ _ same.0; takes = takes.0; next = eqb-true _ _ next.0; later = next.1 }

-- the place of the list
record IsListPlace (s : Shape) (position : ℕ) (list : Text × Bool) : Type 0 where
  pub id_is : (rule_at s position).id ≡ list.0
  pub takes : takes_words s position ≡ true
  pub stays : next_position (rule_at s position) position ≡ position

list_place_is : (s : Shape) (position : ℕ) (list : Text × Bool) → are_places s position [] (Some list) ≡ true → IsListPlace s position list
list_place_is s position list e =
    let same = both (bytes_eq (rule_at s position).id list.0) _ e in
    let takes = both (takes_words s position) _ same.1 in
    record { id_is = is_same _ _ same.0; takes = takes.0; stays = eqb-true _ _ takes.1 }

-- the names are so many that each positional has one, and only a list has more
pub record AreFor (ids : List Text) (list : Option (Text × Bool)) (ns : List Text) : Type 0 where
  pub first : List Text
  pub enough : first_names ids ns ≡ Some first
  pub fits : fits_list list (names_left ids ns) ≡ true

pub are_for : (ids : List Text) (list : Option (Text × Bool)) (ns first : List Text) → first_names ids ns ≡ Some first → fits_list list (names_left ids ns) ≡ true → AreFor ids list ns
are_for ids list ns first enough fits = record { first = first; enough = enough; fits = fits }

later_for : (id : Text) (ids : List Text) (list : Option (Text × Bool)) (n : Text) (ns : List Text) → AreFor (id ∷ ids) list (n ∷ ns) → AreFor ids list ns
later_for id ids list n ns are =
    let before = some_before (λ first. n ∷ first) (first_names ids ns) are.first are.enough in
    record { first = before.0; enough = before.1; fits = are.fits }

nothing_left : (ws : List Text) → fits_list None ws ≡ true → ws ≡ []
nothing_left [] e = refl
nothing_left (w ∷ ws) e = absurd (true≢false (sym e))

module _ (s : Shape) where
  pub have_places : have_own_ids s.rules ≡ true → (position : ℕ) (ids : List Text) (list : Option (Text × Bool)) (ns : List Text) → are_places s position ids list ≡ true → AreFor ids list ns
      → HavePlaces s position ns
  have_places own position [] None ns places are = subst (HavePlaces s position) (sym (nothing_left ns are.fits)) tt
  have_places own position [] (Some list) ns places are =
      let place = list_place_is s position list places in
      list_places s position place.stays (words_taken s position own place.takes) ns
  have_places own position (id ∷ ids) list [] places are = absurd (none_some are.first are.enough)
  have_places own position (id ∷ ids) list (n ∷ ns) places are =
      let place = place_is s position id ids list places in (
        words_taken s position own place.takes n,
        subst (λ p. HavePlaces s p ns) (sym place.next) (have_places own (suc position) ids list ns place.later (later_for id ids list n ns are)),
      )

  -- an argument of another id is given no name
  pub given-none : (id : Text) (position : ℕ) (ids : List Text) (list : Option (Text × Bool)) (ns : List Text) → are_places s position ids list ≡ true → AreFor ids list ns
      → list_all (is_not id) ids ≡ true → is_no_list list id ≡ true → given_names s id position ns ≡ []
  given-none id position [] None ns places are other no_list = ap (given_names s id position) (nothing_left ns are.fits)
  given-none id position [] (Some list) ns places are other no_list =
      let place = list_place_is s position list places in
      given-no_list s position place.stays id (ap (λ i. bytes_eq i id) place.id_is ∙ is_false _ no_list) ns
  given-none id position (x ∷ ids) list [] places are other no_list = refl
  given-none id position (x ∷ ids) list (n ∷ ns) places are other no_list =
      let place = place_is s position x ids list places in
      let others = both (is_not id x) _ other in
      ap₂ (λ b p. cond b (n ∷ []) [] ++ given_names s id p ns) (ap (λ i. bytes_eq i id) place.id_is ∙ is_false _ others.0) place.next
      ∙ given-none id (suc position) ids list ns place.later (later_for x ids list n ns are) others.1 no_list

  pub given-words : (position : ℕ) (ids : List Text) (list : Option (Text × Bool)) (ns : List Text) → are_places s position ids list ≡ true → AreFor ids list ns
      → are_own ids ≡ true → list_all (is_no_list list) ids ≡ true → Gives (λ id. given_names s id position ns) ids ns
  given-words position [] list ns places are own no_list = tt
  given-words position (x ∷ ids) list [] places are own no_list = absurd (none_some are.first are.enough)
  given-words position (x ∷ ids) list (n ∷ ns) places are own no_list =
      let place = place_is s position x ids list places in
      let later = later_for x ids list n ns are in
      let owns = both (list_all (is_not x) ids) _ own in
      let no_lists = both (is_no_list list x) _ no_list in (
        ap₂ (λ b p. cond b (n ∷ []) [] ++ given_names s x p ns) (ap (λ i. bytes_eq i x) place.id_is ∙ same_text x) place.next
            ∙ ap (λ vs. n ∷ vs) (given-none x (suc position) ids list ns place.later later owns.0 no_lists.0),
        gives_same (λ id. given_names s id (suc position) ns) (λ id. given_names s id position (n ∷ ns)) ids ns
            (list_each (is_not x) (λ id. given_names s id position (n ∷ ns) ≡ given_names s id (suc position) ns)
            (λ id e. ap₂ (λ b p. cond b (n ∷ []) [] ++ given_names s id p ns) (ap (λ i. bytes_eq i id) place.id_is ∙ other_way id x (is_false _ e)) place.next) ids owns.0)
            (given-words (suc position) ids list ns place.later later owns.1 no_lists.1),
      )

-- what the list of a command is given
abbrev pub listed : Option (Text × Bool) → (Text → List Text) → List Text
listed None g = []
listed (Some list) g = g list.0

pub given-listed : (s : Shape) (position : ℕ) (ids : List Text) (list : Option (Text × Bool)) (ns : List Text) → are_places s position ids list ≡ true → AreFor ids list ns
    → no_list_among ids list ≡ true → listed list (λ id. given_names s id position ns) ≡ names_left ids ns
given-listed s position [] None ns places are alone = sym (nothing_left ns are.fits)
given-listed s position [] (Some list) ns places are alone =
    let place = list_place_is s position list places in
    ap (λ id. given_names s id position ns) (sym place.id_is) ∙ given-list s position place.stays ns
given-listed s position (x ∷ ids) None [] places are alone = refl
given-listed s position (x ∷ ids) (Some list) [] places are alone = refl
given-listed s position (x ∷ ids) None (n ∷ ns) places are alone =
    let place = place_is s position x ids None places in
    given-listed s (suc position) ids None ns place.later (later_for x ids None n ns are) refl
given-listed s position (x ∷ ids) (Some list) (n ∷ ns) places are alone =
    let place = place_is s position x ids (Some list) places in
    let others = both (is_not list.0 x) _ alone in
    ap₂ (λ b p. cond b (n ∷ []) [] ++ given_names s list.0 p ns) (ap (λ i. bytes_eq i list.0) place.id_is ∙ is_false _ others.0) place.next
    ∙ given-listed s (suc position) ids (Some list) ns place.later (later_for x ids (Some list) n ns are) others.1
