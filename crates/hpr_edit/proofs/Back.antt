-- What an inverse makes of the program that its command left is a program.
use Rattle.std.proofs.Common.{◌≡◌, ℕ, ◌+◌, ◌≤◌, Bool, true, false, not, ◌⊎◌, inl, inr, List, [], ◌∷◌, refl, ap, sym, ◌∙◌, subst, arith, All}
use Rattle.std.specs.List.{AllByRecursion}
use Rattle.std.specs.Str.{bytes_eq}
use Rattle.hpr_terms.specs.declared.limits.TheConstants.{MAX_LEVELS}
use Rattle.hpr_terms.specs.declared.tag.Tag.{Tag}
use Rattle.hpr_terms.specs.Names.{IsVariable}
use Rattle.hpr_terms.proofs.Facts.{not_is}
use Rattle.hpr_syntax.specs.declared.tree.Stmt.{Stmt}
use Rattle.hpr_syntax.specs.declared.tree.Stmt.TheVariants.{If, While}
use Rattle.hpr_syntax.specs.declared.rows.Content.{Content}
use Rattle.hpr_syntax.specs.declared.rows.Content.TheVariants as content
use Rattle.hpr_syntax.specs.Body.{Body, done, part_count}
use Rattle.hpr_syntax.specs.BodyOf.{before}
use Rattle.hpr_syntax.specs.Parts.{same_tag, tag_of, find_stmt, tags_of}
use Rattle.hpr_syntax.specs.Rows.{content_of, made}
use Rattle.hpr_syntax.specs.Issued.{issued_to}
use Rattle.hpr_syntax.specs.Tree.{Tree}
use Rattle.hpr_syntax.specs.Proper.{IsProperBody}
use Rattle.hpr_syntax.specs.Shape.{IsProgram, is_unissued, first_unissued, first_repeated_tag, first_deep, says_large, is_wrong, first_where, too_many, first_repeated}
use Rattle.hpr_syntax.proofs.NoRefusal.{HasNoRefusal, no_refusal, shaped}
use Rattle.hpr_syntax.proofs.TagLemmas.{same_tag_itself, same_tag_is}
use Rattle.hpr_syntax.proofs.IssuedLemmas.{bounds_issued}
use Rattle.hpr_edit.specs.declared.command.Command.{Command}
use Rattle.hpr_edit.specs.declared.command.Command.TheVariants.{Insert, Delete, Move, Set, Wrap, Unwrap, Finals}
use Rattle.hpr_edit.specs.declared.command.Inverse.{Inverse}
use Rattle.hpr_edit.specs.declared.command.EditError.TheVariants.{SerialsSpent}
use Rattle.hpr_edit.specs.InPlace.{one_if, times}
use Rattle.hpr_edit.specs.Places.{joined, is_place, place_of}
use Rattle.hpr_edit.specs.Changes.{at_part, gone, saying, wrapped, unwrapped}
use Rattle.hpr_edit.specs.Edited.{becomes, edited, settled, next_tag, is_spent, same_kind, is_action, stands_in}
use Rattle.hpr_edit.specs.Reverted.{reverted, body_back, finals_back, put_back, Undoes, IsPutBackIssued}
use Rattle.hpr_edit.proofs.Around.{plug, times_plug, times_before}
use Rattle.hpr_edit.proofs.Placed.{PlacedIn, placed_in}
use Rattle.hpr_edit.proofs.Tags.{count, counted, once, all_issued, issued_in, issued_bounds}
use Rattle.hpr_edit.proofs.Undone.{refuse_is, found_is, FoundIs, settled_is, Known, known, known_at, Said, said, times_joined, undone}
use Rattle.hpr_edit.proofs.Fresh.{After, after_command}

-- where the parts of before a command are: in what it left, or in what its inverse puts back
pub record Stay (p t : Tree) (i : Inverse) : Type 0 where
  pub stays : (u : Tag) → times u p.body ≤ times u t.body + count u (put_back i)
  pub back : (u : Tag) → count u (put_back i) ≤ times u p.body

stay_end : (p t q : Tree) (inv i : Inverse) → settled t inv ≡ becomes q i → Stay p t inv → Stay p q i
stay_end p t q inv i h s =
    let e = settled_is t q inv i h in
    subst (λ y. Stay p y i) e.0 (subst (λ y. Stay p t y) e.1 s)

times_made : (u t : Tag) (c : Content) (s : Stmt) → is_action c ≡ false → times u (before s done) ≤ times u (before (made t c (before s done) done) done)
times_made u t (content.If e) s h = omega arith
times_made u t (content.While e) s h = omega arith
times_made u t c s h = absurd cc

times_left : (u : Tag) (s : Stmt) (rest : Body) → times u (before s rest) ≤ times u (unwrapped s rest) + one_if (same_tag (tag_of s) u)
times_left u (If t e a b) rest = omega (arith, times_joined u a (joined b rest), times_joined u b rest)
times_left u (While t e b) rest = omega (arith, times_joined u b rest)
times_left u s rest = omega arith

own_tag : (u : Tag) (s : Stmt) (rest : Body) → one_if (same_tag (tag_of s) u) ≤ times u (before s rest)
own_tag u (If t e a b) rest = omega arith
own_tag u s rest = omega arith

pub stay : (p : Tree) → IsProgram p → (c : Command) (author : ℕ) (q : Tree) (i : Inverse) → edited p c author ≡ becomes q i → Stay p q i
stay p is (Insert place c) author q i h =
    let a : (not (is_place place p.body) ≡ false) × _ = refuse_is _ (not (is_place place p.body)) _ q i h in
    let b = refuse_is SerialsSpent (is_spent author p.issued) _ q i a.1 in
    let new = made (next_tag author p.issued) c done done in
    let k : PlacedIn place p.body = placed_in place p.body (once p is) (not_is _ a.0) in
    stay_end p _ q _ i b.1 (record {
      stays = λ u. omega (arith, ap (times u) k.is, ap (times u) (k.change (before new)), times_plug u k.around k.rest, times_plug u k.around (before new k.rest), times_before u new k.rest);
      back = λ u. omega arith;
    })
stay p is (Delete t) author q i h =
    let f : FoundIs (find_stmt t p.body) (place_of t p.body) _ q i = found_is t _ _ _ q i h in
    let k : Known t p.body f.part f.place = known t p.body f.part f.place (once p is) f.part_is f.place_is in
    stay_end p _ q _ i f.then (record {
      stays = λ u. omega (arith, ap (times u) k.is, ap (times u) (known_at t p.body f.part f.place k gone), times_plug u k.around k.rest, times_plug u k.around (before f.part k.rest), times_before u f.part k.rest, counted u (before f.part done) []);
      back = λ u. omega (arith, ap (times u) k.is, times_plug u k.around (before f.part k.rest), times_before u f.part k.rest, counted u (before f.part done) []);
    })
stay p is (Move t place) author q i h =
    let f : FoundIs (find_stmt t p.body) (place_of t p.body) _ q i = found_is t _ _ _ q i h in
    let k : Known t p.body f.part f.place = known t p.body f.part f.place (once p is) f.part_is f.place_is in
    let a = refuse_is _ (stands_in place.parent f.part) _ q i f.then in
    let b : (not (is_place place (at_part t gone p.body)) ≡ false) × _ = refuse_is _ (not (is_place place (at_part t gone p.body))) _ q i a.1 in
    let e : at_part t gone p.body ≡ plug k.around k.rest = known_at t p.body f.part f.place k gone in
    let le : (u : Tag) → times u (at_part t gone p.body) ≤ 1 =
    λ u. omega (arith, ap (times u) e, k.once u, times_plug u k.around k.rest, times_plug u k.around (before f.part k.rest), times_before u f.part k.rest) in
    let l : PlacedIn place (at_part t gone p.body) = placed_in place (at_part t gone p.body) le (not_is _ b.0) in
    stay_end p _ q _ i b.1 (record {
      stays = λ u. omega (arith, ap (times u) k.is, ap (times u) e, ap (times u) l.is, ap (times u) (l.change (before f.part)), times_plug u k.around k.rest, times_plug u k.around (before f.part k.rest), times_before u f.part k.rest, times_plug u l.around l.rest, times_plug u l.around (before f.part l.rest), times_before u f.part l.rest);
      back = λ u. omega arith;
    })
stay p is (Set t c) author q i h =
    let f : FoundIs (find_stmt t p.body) (place_of t p.body) _ q i = found_is t _ _ _ q i h in
    let k : Known t p.body f.part f.place = known t p.body f.part f.place (once p is) f.part_is f.place_is in
    let a : (not (same_kind c (content_of f.part)) ≡ false) × _ = refuse_is _ (not (same_kind c (content_of f.part))) _ q i f.then in
    let d : Said c f.part = said c f.part (not_is _ a.0) in
    stay_end p _ q _ i a.1 (record {
      stays = λ u. omega (arith, ap (times u) k.is, ap (times u) (known_at t p.body f.part f.place k (saying c)), ap (λ y. times u (plug k.around y)) (d.is k.rest), times_plug u k.around (before d.stmt k.rest), times_plug u k.around (before f.part k.rest), d.same u k.rest);
      back = λ u. omega arith;
    })
stay p is (Wrap t c) author q i h =
    let f : FoundIs (find_stmt t p.body) (place_of t p.body) _ q i = found_is t _ _ _ q i h in
    let k : Known t p.body f.part f.place = known t p.body f.part f.place (once p is) f.part_is f.place_is in
    let a : (is_action c ≡ false) × _ = refuse_is _ (is_action c) _ q i f.then in
    let b = refuse_is SerialsSpent (is_spent author p.issued) _ q i a.1 in
    let t' = next_tag author p.issued in
    let new = made t' c (before f.part done) done in
    stay_end p _ q _ i b.1 (record {
      stays = λ u. omega (arith, ap (times u) k.is, ap (times u) (known_at t p.body f.part f.place k (wrapped t' c)), times_plug u k.around (before new k.rest), times_plug u k.around (before f.part k.rest), times_before u new k.rest, times_before u f.part k.rest, times_made u t' c f.part a.0);
      back = λ u. omega arith;
    })
stay p is (Unwrap t) author q i h =
    let f : FoundIs (find_stmt t p.body) (place_of t p.body) _ q i = found_is t _ _ _ q i h in
    let k : Known t p.body f.part f.place = known t p.body f.part f.place (once p is) f.part_is f.place_is in
    let a : (is_action (content_of f.part) ≡ false) × _ = refuse_is _ (is_action (content_of f.part)) _ q i f.then in
    let e : tag_of f.part ≡ t = same_tag_is (tag_of f.part) t k.tag in
    stay_end p _ q _ i a.1 (record {
      stays = λ u. omega (arith, ap (times u) k.is, ap (times u) (known_at t p.body f.part f.place k unwrapped), times_plug u k.around (unwrapped f.part k.rest), times_plug u k.around (before f.part k.rest), times_left u f.part k.rest, ap (λ y. one_if (same_tag y u)) e);
      back = λ u. omega (arith, ap (times u) k.is, times_plug u k.around (before f.part k.rest), own_tag u f.part k.rest, ap (λ y. one_if (same_tag y u)) e);
    })
stay p is (Finals names) author q i h = stay_end p _ q _ i h (record { stays = λ u. omega arith; back = λ u. omega arith })

-- a list of tags, one by one
all_of : (P : Tag → Type 0) (ts : List Tag) → ((t : Tag) → 1 ≤ count t ts → P t) → AllByRecursion P ts
all_of P [] h = tt
all_of P (t ∷ ts) h = (h t (rw (same_tag_itself t) (omega arith)), all_of P ts (λ u k. h u (omega (arith, k))))

one_of : (P : Tag → Type 0) (u t : Tag) (ts : List Tag) (b : Bool) → same_tag u t ≡ b → AllByRecursion P (u ∷ ts) → 1 ≤ one_if b + count t ts → (1 ≤ count t ts → P t) → P t
one_of P u t ts true e h k more = subst P (same_tag_is u t e) h.0
one_of P u t ts false e h k more = more (omega (arith, k))

all_at : (P : Tag → Type 0) (ts : List Tag) (t : Tag) → AllByRecursion P ts → 1 ≤ count t ts → P t
all_at P [] t h k = absurd (omega (arith, k))
all_at P (u ∷ us) t h k = one_of P u t us (same_tag u t) refl h k (all_at P us t h.1)

-- after a command its inverse can be reverted
pub ready : (p : Tree) → IsProgram p → (c : Command) (author : ℕ) (q : Tree) (i : Inverse) → edited p c author ≡ becomes q i → IsPutBackIssued i q
ready p is c author q i h =
    let s : Stay p q i = stay p is c author q i h in
    let a : After author p q c = after_command p q c author i h in
    all_of (λ t. t.serial ≤ issued_to t.author q.issued) (put_back i)
    (λ t k. omega (arith, (issued_bounds p.issued t (issued_in p is t (omega (arith, k, s.back t)))).1, a.rises is.proper.ascending t.author))

pub restored_body : (i : Inverse) (q : Tree) (old : Tree) (u : Undoes old i q) → (reverted i q).body ≡ old.body
restored_body i q old u = ap (body_back i) (sym u.body) ∙ (undone old u.is u.command u.author u.left i u.edited).body

pub restored_finals : (i : Inverse) (q : Tree) (old : Tree) (u : Undoes old i q) → (reverted i q).finals ≡ old.finals
restored_finals i q old u = ap (finals_back i) (sym u.finals) ∙ (undone old u.is u.command u.author u.left i u.edited).finals

either : (a b : ℕ) → 1 ≤ a + b → (1 ≤ a) ⊎ (1 ≤ b)
either a b h = grind (arith, h)

old_issued : (i : Inverse) (q : Tree) → IsProgram q → (old : Tree) (u : Undoes old i q) → IsPutBackIssued i q → (t : Tag) → 1 ≤ times t old.body → is_unissued q.issued t ≡ false
old_issued i q is old u issued t k =
    let s : Stay old u.left i = stay old u.is u.command u.author u.left i u.edited in
    elim (either (times t q.body) (count t (put_back i)) (omega (arith, k, s.stays t, ap (times t) u.body))) [
      | inl m ↦ issued_in q is t m
      | inr m ↦ bounds_issued q.issued t (issued_bounds old.issued t (issued_in old u.is t k)).0 (all_at (λ t. t.serial ≤ issued_to t.author q.issued) (put_back i) t issued m)
    ]

pub back_program : (i : Inverse) (q : Tree) → IsProgram q → (old : Tree) (u : Undoes old i q) → IsPutBackIssued i q → IsProgram (reverted i q)
back_program i q is old u issued =
    let b : (reverted i q).body ≡ old.body = restored_body i q old u in
    let f : (reverted i q).finals ≡ old.finals = restored_finals i q old u in
    let h : HasNoRefusal old = no_refusal old u.is.shape in
    record {
      proper = record {
        ascending = is.proper.ascending;
        numbers = is.proper.numbers;
        body = subst (λ y. IsProperBody y) (sym b) u.is.proper.body;
        finals = subst (λ y. All IsVariable y) (sym f) u.is.proper.finals;
      };
      shape = shaped (reverted i q) (record {
        tags = ap first_repeated_tag b ∙ h.tags;
        issued = ap (λ y. first_unissued q.issued (tags_of y [])) b
            ∙ all_issued q.issued (tags_of old.body []) (λ t k. old_issued i q is old u issued t (omega (arith, k, counted t old.body [])));
        levels = ap (first_deep MAX_LEVELS) b ∙ h.levels;
        expressions = ap (first_where says_large) b ∙ h.expressions;
        variables = ap (first_where is_wrong) b ∙ h.variables;
        parts = ap (λ y. too_many (part_count y)) b ∙ h.parts;
        names = ap (first_repeated bytes_eq []) f ∙ h.names;
      });
    }

-- an inverse stays good while body and finals come back and issued numbers rise
pub undoes_again : (old : Tree) (i : Inverse) (p q : Tree) → Undoes old i p → p.body ≡ q.body → p.finals ≡ q.finals → Undoes old i q
undoes_again old i p q u b f = record {
  is = u.is;
  command = u.command;
  author = u.author;
  left = u.left;
  edited = u.edited;
  body = u.body ∙ b;
  finals = u.finals ∙ f;
}

pub issued_again : (i : Inverse) (p q : Tree) → IsPutBackIssued i p → ((a : ℕ) → issued_to a p.issued ≤ issued_to a q.issued) → IsPutBackIssued i q
issued_again i p q h rise =
    all_of (λ t. t.serial ≤ issued_to t.author q.issued) (put_back i)
    (λ t k. omega (arith, all_at (λ t. t.serial ≤ issued_to t.author p.issued) (put_back i) t h k, rise t.author))
