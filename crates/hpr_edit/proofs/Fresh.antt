-- No tag is issued twice.
use Rattle.std.proofs.Common.{◌≡◌, ◌≢◌, ℕ, ◌+◌, ◌<◌, ◌≤◌, Bool, true, false, not, None, List, [], ◌∷◌, ◌++◌, refl, ap, sym, ◌∙◌, subst, arith, eqb}
use Rattle.std.specs.List.{AllByRecursion}
use Rattle.std.proofs.lemmas.Bool.{eqb-true, eqb-false}
use Rattle.hpr_terms.specs.declared.tag.Tag.{Tag}
use Rattle.hpr_syntax.specs.Rows.{content_of}
use Rattle.hpr_syntax.specs.Parts.{find_stmt}
use Rattle.hpr_syntax.specs.Issued.{Issued, IsIssued, issued_to, raised}
use Rattle.hpr_syntax.specs.Tree.{Tree}
use Rattle.hpr_syntax.specs.Shape.{IsProgram}
use Rattle.hpr_syntax.proofs.IssuedLemmas.{raised_keeps, raised_greater, raised_others}
use Rattle.hpr_edit.specs.declared.command.Command.{Command}
use Rattle.hpr_edit.specs.declared.command.Command.TheVariants.{Insert, Delete, Move, Set, Wrap, Unwrap, Finals}
use Rattle.hpr_edit.specs.declared.command.Inverse.{Inverse}
use Rattle.hpr_edit.specs.declared.command.EditError.TheVariants.{SerialsSpent}
use Rattle.hpr_edit.specs.Places.{is_place, place_of}
use Rattle.hpr_edit.specs.Changes.{at_part, gone}
use Rattle.hpr_edit.specs.Edited.{becomes, edited, settled, next_tag, is_spent, is_action, same_kind, stands_in}
use Rattle.hpr_edit.specs.Steps.{new_tags, Steps, none, command, revert, Apart, Fresh}
use Rattle.hpr_edit.proofs.Around.{absent_found}
use Rattle.hpr_edit.proofs.Undone.{refuse_is, found_is, FoundIs, settled_is}
use Rattle.hpr_edit.proofs.Tags.{not_issued}

-- the tags with this author and the serials after n, one after the other
abbrev Serials : ℕ → ℕ → List Tag → Type 0
Serials author n [] = Unit {0}
Serials author n (t ∷ ts) = (t.author ≡ author) × (t.serial ≡ n + 1) × Serials author (n + 1) ts

-- what a command does to the issued numbers
pub record After (author : ℕ) (p q : Tree) (c : Command) : Type 0 where
  pub issued : IsIssued p.issued → IsIssued q.issued
  pub rises : IsIssued p.issued → (a : ℕ) → issued_to a p.issued ≤ issued_to a q.issued
  pub serials : (ts : List Tag) → IsIssued p.issued → Serials author (issued_to author q.issued) ts → Serials author (issued_to author p.issued) (new_tags author p.issued c ++ ts)

same_after : (author : ℕ) (p q : Tree) (c : Command) → q.issued ≡ p.issued → ((ts : List Tag) → new_tags author p.issued c ++ ts ≡ ts) → After author p q c
same_after author p q c e n = record {
  issued = λ k. subst (λ l. IsIssued l) (sym e) k;
  rises = λ k a. omega (arith, ap (issued_to a) e);
  serials = λ ts k s. subst (λ us. Serials author (issued_to author p.issued) us) (sym (n ts)) (subst (λ l. Serials author (issued_to author l) ts) e s);
}

pub rises_if : (b : Bool) (a author : ℕ) (l : Issued) → eqb a author ≡ b → IsIssued l → issued_to a l ≤ issued_to a (raised author (issued_to author l + 1) l)
rises_if true a author l e k =
    let is : a ≡ author = eqb-true a author e in
    subst (λ x. issued_to x l ≤ issued_to x (raised author (issued_to author l + 1) l)) (sym is) (omega (arith, raised_greater author (issued_to author l + 1) l k))
rises_if false a author l e k = omega (arith, raised_others author (issued_to author l + 1) l a (eqb-false a author e))

raised_after : (author : ℕ) (p q : Tree) (c : Command) → q.issued ≡ raised author (issued_to author p.issued + 1) p.issued
    → ((ts : List Tag) → new_tags author p.issued c ++ ts ≡ next_tag author p.issued ∷ ts) → After author p q c
raised_after author p q c e n = record {
  issued = λ k. subst (λ l. IsIssued l) (sym e) (raised_keeps author (issued_to author p.issued + 1) p.issued (omega arith) k);
  rises = λ k a. omega (arith, ap (issued_to a) e, rises_if (eqb a author) a author p.issued refl k);
  serials = λ ts k s.
      let m : issued_to author q.issued ≡ issued_to author p.issued + 1 =
      ap (issued_to author) e ∙ raised_greater author (issued_to author p.issued + 1) p.issued k ∙ (omega arith) in
      subst (λ us. Serials author (issued_to author p.issued) us) (sym (n ts)) (refl, refl, subst (λ x. Serials author x ts) m s);
}

pub issued_at : (t q : Tree) (inv i : Inverse) → settled t inv ≡ becomes q i → q.issued ≡ t.issued
issued_at t q inv i h = ap (λ (x : Tree). x.issued) (sym (settled_is t q inv i h).0)

pub after_command : (p q : Tree) (c : Command) (author : ℕ) (i : Inverse) → edited p c author ≡ becomes q i → After author p q c
after_command p q (Insert place c) author i h =
    let a = refuse_is _ (not (is_place place p.body)) _ q i h in
    let b = refuse_is SerialsSpent (is_spent author p.issued) _ q i a.1 in
    raised_after author p q (Insert place c) (issued_at _ q _ i b.1) (λ ts. refl)
after_command p q (Delete t) author i h =
    let f : FoundIs (find_stmt t p.body) (place_of t p.body) _ q i = found_is t _ _ _ q i h in
    same_after author p q (Delete t) (issued_at _ q _ i f.then) (λ ts. refl)
after_command p q (Move t place) author i h =
    let f : FoundIs (find_stmt t p.body) (place_of t p.body) _ q i = found_is t _ _ _ q i h in
    let a = refuse_is _ (stands_in place.parent f.part) _ q i f.then in
    let b = refuse_is _ (not (is_place place (at_part t gone p.body))) _ q i a.1 in
    same_after author p q (Move t place) (issued_at _ q _ i b.1) (λ ts. refl)
after_command p q (Set t c) author i h =
    let f : FoundIs (find_stmt t p.body) (place_of t p.body) _ q i = found_is t _ _ _ q i h in
    let a = refuse_is _ (not (same_kind c (content_of f.part))) _ q i f.then in
    same_after author p q (Set t c) (issued_at _ q _ i a.1) (λ ts. refl)
after_command p q (Wrap t c) author i h =
    let f : FoundIs (find_stmt t p.body) (place_of t p.body) _ q i = found_is t _ _ _ q i h in
    let a = refuse_is _ (is_action c) _ q i f.then in
    let b = refuse_is SerialsSpent (is_spent author p.issued) _ q i a.1 in
    raised_after author p q (Wrap t c) (issued_at _ q _ i b.1) (λ ts. refl)
after_command p q (Unwrap t) author i h =
    let f : FoundIs (find_stmt t p.body) (place_of t p.body) _ q i = found_is t _ _ _ q i h in
    let a = refuse_is _ (is_action (content_of f.part)) _ q i f.then in
    same_after author p q (Unwrap t) (issued_at _ q _ i a.1) (λ ts. refl)
after_command p q (Finals names) author i h =
    same_after author p q (Finals names) (issued_at _ q _ i h) (λ ts. refl)

-- the new tags are the author's next serials, one after the other
new_serials : {author : ℕ} {p r : Tree} {ts : List Tag} → Steps author p ts r → IsIssued p.issued → Serials author (issued_to author p.issued) ts
new_serials (none author p) k = tt
new_serials (command author p q r c i ts is more) k =
    let f : After author p q c = after_command p q c author i is in
    f.serials ts k (new_serials more (f.issued k))
new_serials (revert author p r i ts more) k = new_serials more k

-- so each was issued to no one before
above : (author n : ℕ) (p : Tree) (ts : List Tag) → issued_to author p.issued ≤ n → Serials author n ts → AllByRecursion (λ t. issued_to t.author p.issued < t.serial) ts
above author n p [] le s = tt
above author n p (t ∷ ts) le s = (rw s.0 (omega (arith, le, s.1)), above author (n + 1) p ts (omega (arith, le)) s.2)

-- and stands nowhere
nowhere : (p : Tree) → IsProgram p → (ts : List Tag) → AllByRecursion (λ t. issued_to t.author p.issued < t.serial) ts → AllByRecursion (λ t. find_stmt t p.body ≡ None) ts
nowhere p is [] h = tt
nowhere p is (t ∷ ts) h = (absent_found t p.body (not_issued p is t h.0), nowhere p is ts h.1)

later_serials : (author n : ℕ) (t : Tag) (ts : List Tag) → t.serial ≤ n → Serials author n ts → AllByRecursion (λ u. t ≢ u) ts
later_serials author n t [] le s = tt
later_serials author n t (u ∷ ts) le s = (λ e. omega (arith, ap (λ (x : Tag). x.serial) e, s.1, le), later_serials author (n + 1) t ts (omega (arith, le)) s.2)

apart : (author n : ℕ) (ts : List Tag) → Serials author n ts → Apart ts
apart author n [] s = tt
apart author n (t ∷ ts) s = (later_serials author (n + 1) t ts (omega (arith, s.1)) s.2, apart author (n + 1) ts s.2)

pub fresh_tags : (author : ℕ) (p r : Tree) (ts : List Tag) → IsProgram p → Steps author p ts r → Fresh p ts
fresh_tags author p r ts is steps =
    let s : Serials author (issued_to author p.issued) ts = new_serials steps is.proper.ascending in
    let u = above author (issued_to author p.issued) p ts (omega arith) s in
    record { absent = nowhere p is ts u; unissued = u; apart = apart author (issued_to author p.issued) ts s }
