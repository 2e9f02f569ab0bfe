-- Each command is undone by its inverse.
use Rattle.std.proofs.Common.{◌≡◌, ℕ, ◌+◌, ◌≤◌, Bool, true, false, not, Option, Some, None, refl, ap, sym, ◌∙◌, arith, subst, add-one}
use Rattle.hpr_terms.specs.declared.tag.Tag.{Tag}
use Rattle.hpr_terms.proofs.Facts.{not_is}
use Rattle.hpr_syntax.specs.declared.tree.Stmt.{Stmt}
use Rattle.hpr_syntax.specs.declared.tree.Stmt.TheVariants.{Assign, If, While, Write, Store}
use Rattle.hpr_syntax.specs.declared.rows.Content.{Content}
use Rattle.hpr_syntax.specs.declared.rows.Content.TheVariants as content
use Rattle.hpr_syntax.specs.Body.{Body, done, action, branch, loop}
use Rattle.hpr_syntax.specs.BodyOf.{before}
use Rattle.hpr_syntax.specs.Parts.{same_tag, tag_of, find_stmt}
use Rattle.hpr_syntax.specs.Rows.{content_of, made}
use Rattle.hpr_syntax.specs.Tree.{Tree}
use Rattle.hpr_syntax.specs.Shape.{IsProgram, shape}
use Rattle.hpr_syntax.specs.declared.shape.ShapeError.{ShapeError}
use Rattle.hpr_syntax.proofs.TagLemmas.{same_tag_itself, same_tag_is}
use Rattle.hpr_edit.specs.declared.command.Place.{Place}
use Rattle.hpr_edit.specs.declared.command.Command.{Command}
use Rattle.hpr_edit.specs.declared.command.Command.TheVariants.{Insert, Delete, Move, Set, Wrap, Unwrap, Finals}
use Rattle.hpr_edit.specs.declared.command.Inverse.{Inverse}
use Rattle.hpr_edit.specs.declared.command.EditError.{EditError}
use Rattle.hpr_edit.specs.declared.command.EditError.TheVariants.{SerialsSpent}
use Rattle.hpr_edit.specs.Places.{width, joined, is_place, place_of}
use Rattle.hpr_edit.specs.InPlace.{times}
use Rattle.hpr_edit.specs.Changes.{at_part, at_place, gone, first_block, second_block, saying, wrapped, unwrapped, firsts, later, rewrapped}
use Rattle.hpr_edit.specs.Edited.{Edited, becomes, refuse, found, settled, unless, edited, next_tag, is_spent, same_kind, is_action}
use Rattle.hpr_edit.specs.Reverted.{moved, Restores}
use Rattle.hpr_edit.proofs.Around.{Around, plug, place_in, times_before, times_plug, times_head, at_plug, find_plug, place_plug, FoundIn, found_in}
use Rattle.hpr_edit.proofs.Placed.{change_at, PlacedIn, placed_in}
use Rattle.hpr_edit.proofs.Tags.{once, next_is_new}

-- what an answer that becomes something says of its tests
pub refuse_is : (why : EditError) (b : Bool) (next : Edited) (q : Tree) (i : Inverse) → refuse why b next ≡ becomes q i → (b ≡ false) × (next ≡ becomes q i)
refuse_is why true next q i h = absurd cc
refuse_is why false next q i h = (refl, h)

pub record FoundIs (o : Option Stmt) (r : Option Place) (next : Stmt → Place → Edited) (q : Tree) (i : Inverse) : Type 0 where
  pub part : Stmt
  pub place : Place
  pub part_is : o ≡ Some part
  pub place_is : r ≡ Some place
  pub then : next part place ≡ becomes q i

pub found_is : (t : Tag) (o : Option Stmt) (r : Option Place) (next : Stmt → Place → Edited) (q : Tree) (i : Inverse) → found t o r next ≡ becomes q i → FoundIs o r next q i
found_is t None r next q i h = absurd cc
found_is t (Some s) None next q i h = absurd cc
found_is t (Some s) (Some p) next q i h = record { part = s; place = p; part_is = refl; place_is = refl; then = h }

same_end : (p t q : Tree) (inv i : Inverse) → t ≡ q → inv ≡ i → Restores p inv t → Restores p i q
same_end p t q inv i e f r = subst (λ y. Restores p i y) e (subst (λ y. Restores p y t) f r)

pub unless_is : (o : Option ShapeError) (next : Edited) (q : Tree) (i : Inverse) → unless o next ≡ becomes q i → (o ≡ None) × (next ≡ becomes q i)
unless_is None next q i h = (refl, h)
unless_is (Some e) next q i h = absurd cc

pub settled_is : (t q : Tree) (inv i : Inverse) → settled t inv ≡ becomes q i → (t ≡ q) × (inv ≡ i)
settled_is t q inv i h =
    let k : becomes t inv ≡ becomes q i = (unless_is (shape t) (becomes t inv) q i h).1 in
    (cc, cc)

settled_end : (p t q : Tree) (inv i : Inverse) → settled t inv ≡ becomes q i → Restores p inv t → Restores p i q
settled_end p t q inv i h r =
    let e = settled_is t q inv i h in
    same_end p t q inv i e.0 e.1 r

-- what is known of a part that is found
pub record Known (t : Tag) (body : Body) (s : Stmt) (old : Place) : Type 0 where
  pub around : Around
  pub rest : Body
  pub is : body ≡ plug around (before s rest)
  pub tag : same_tag (tag_of s) t ≡ true
  pub absent : times t (plug around done) ≡ 0
  pub place : place_in None 0 around ≡ old
  pub once : (u : Tag) → times u (plug around (before s rest)) ≤ 1

same_some : (a b : Place) → Some a ≡ Some b → a ≡ b
same_some a b h = grind (arith, h)

pub known : (t : Tag) (body : Body) (s : Stmt) (old : Place) → ((u : Tag) → times u body ≤ 1) → find_stmt t body ≡ Some s → place_of t body ≡ Some old → Known t body s old
known t body s old le fs ps =
    let f : FoundIn t body s = found_in t body s fs in
    let z : times t (plug f.around done) ≡ 0 = omega (arith, le t, ap (times t) f.is, times_plug t f.around (before s f.rest), times_head t s f.rest f.tag) in
    record {
      around = f.around;
      rest = f.rest;
      is = f.is;
      tag = f.tag;
      absent = z;
      place = same_some _ _ (sym (place_plug t None 0 f.around s f.rest z f.tag) ∙ sym (ap (place_of t) f.is) ∙ ps);
      once = λ u. subst (λ y. times u y ≤ 1) f.is (le u);
    }

-- the part's change, where it is known
pub known_at : (t : Tag) (body : Body) (s : Stmt) (old : Place) (k : Known t body s old) (f : Stmt → Body → Body) → at_part t f body ≡ plug k.around (f s k.rest)
known_at t body s old k f = ap (at_part t f) k.is ∙ at_plug t f k.around s k.rest k.absent k.tag

-- and the way back by its old place
known_back : (t : Tag) (body : Body) (s : Stmt) (old : Place) (k : Known t body s old) (g : Body → Body) (x : Body) → ((u : Tag) → times u x ≤ times u (before s k.rest)) → g x ≡ before s k.rest → at_place old g (plug k.around x) ≡ body
known_back t body s old k g x le e =
    subst (λ y. at_place y g (plug k.around x) ≡ body) k.place
    (change_at k.around g x (λ u. omega (arith, le u, k.once u, times_plug u k.around x, times_plug u k.around (before s k.rest)))
    ∙ ap (plug k.around) e ∙ sym k.is)

-- Insert
tag_made : (t : Tag) (c : Content) (a b : Body) → tag_of (made t c a b) ≡ t
tag_made t (content.If e) a b = refl
tag_made t c a b = refl

same_made : (t : Tag) (c : Content) (a b : Body) → same_tag (tag_of (made t c a b)) t ≡ true
same_made t c a b = rw (tag_made t c a b) (same_tag_itself t)

insert_back : (t : Tag) (body : Body) (place : Place) (c : Content) → ((u : Tag) → times u body ≤ 1) → times t body ≡ 0 → is_place place body ≡ true → at_part t gone (at_place place (before (made t c done done)) body) ≡ body
insert_back t body place c le new is =
    let k : PlacedIn place body = placed_in place body le is in
    let z : times t (plug k.around done) ≡ 0 = omega (arith, new, ap (times t) k.is, times_plug t k.around k.rest) in
    ap (at_part t gone) (k.change (before (made t c done done)))
    ∙ at_plug t gone k.around (made t c done done) k.rest z (same_made t c done done)
    ∙ sym k.is

-- Delete
pub delete_back : (t : Tag) (body : Body) (s : Stmt) (old : Place) → Known t body s old → at_place old (before s) (at_part t gone body) ≡ body
delete_back t body s old k =
    rw (known_at t body s old k gone)
    (known_back t body s old k (before s) k.rest (λ u. omega (arith, times_before u s k.rest)) refl)

-- Move
move_back : (t : Tag) (body : Body) (s : Stmt) (old place : Place) → Known t body s old → is_place place (at_part t gone body) ≡ true →
    moved (find_stmt t (at_place place (before s) (at_part t gone body))) t old (at_place place (before s) (at_part t gone body)) ≡ body
move_back t body s old place k is =
    let left : Body = at_part t gone body in
    let e : left ≡ plug k.around k.rest = known_at t body s old k gone in
    let le : (u : Tag) → times u left ≤ 1 = λ u. omega (arith, ap (times u) e, k.once u, times_plug u k.around k.rest, times_plug u k.around (before s k.rest), times_before u s k.rest) in
    let l : PlacedIn place left = placed_in place left le is in
    let z : times t (plug l.around done) ≡ 0 = omega (arith, ap (times t) l.is, ap (times t) e, times_plug t l.around l.rest, times_plug t k.around k.rest, k.once t, times_plug t k.around (before s k.rest), times_before t s k.rest, times_head t s done k.tag) in
    let m : at_place place (before s) left ≡ plug l.around (before s l.rest) = l.change (before s) in
    let f : find_stmt t (at_place place (before s) left) ≡ Some s = ap (find_stmt t) m ∙ find_plug t l.around s l.rest z k.tag in
    let g : at_part t gone (at_place place (before s) left) ≡ left = ap (at_part t gone) m ∙ at_plug t gone l.around s l.rest z k.tag ∙ sym l.is in
    ap (λ o. moved o t old (at_place place (before s) left)) f
    ∙ ap (at_place old (before s)) g
    ∙ delete_back t body s old k

-- Set
pub record Said (c : Content) (s : Stmt) : Type 0 where
  pub stmt : Stmt
  pub is : (rest : Body) → saying c s rest ≡ before stmt rest
  pub tag : tag_of stmt ≡ tag_of s
  pub same : (u : Tag) (rest : Body) → times u (before stmt rest) ≡ times u (before s rest)
  pub back : (rest : Body) → saying (content_of s) stmt rest ≡ before s rest

pub said : (c : Content) (s : Stmt) → same_kind c (content_of s) ≡ true → Said c s
said (content.If e) (If t f a b) h = record { stmt = If t e a b; is = λ r. refl; tag = refl; same = λ u r. refl; back = λ r. refl }
said (content.While e) (While t f b) h = record { stmt = While t e b; is = λ r. refl; tag = refl; same = λ u r. refl; back = λ r. refl }
said (content.Assign x e) (Assign t y f) h = record { stmt = Assign t x e; is = λ r. refl; tag = refl; same = λ u r. refl; back = λ r. refl }
said (content.Write x e) (Write t y f) h = record { stmt = Write t x e; is = λ r. refl; tag = refl; same = λ u r. refl; back = λ r. refl }
said (content.Store x i e) (Store t y j f) h = record { stmt = Store t x i e; is = λ r. refl; tag = refl; same = λ u r. refl; back = λ r. refl }
said c s h = absurd cc

set_back : (t : Tag) (body : Body) (s : Stmt) (old : Place) (c : Content) → Known t body s old → same_kind c (content_of s) ≡ true → at_part t (saying (content_of s)) (at_part t (saying c) body) ≡ body
set_back t body s old c k h =
    let d : Said c s = said c s h in
    ap (at_part t (saying (content_of s))) (known_at t body s old k (saying c) ∙ ap (plug k.around) (d.is k.rest))
    ∙ at_plug t (saying (content_of s)) k.around d.stmt k.rest k.absent (ap (λ y. same_tag y t) d.tag ∙ k.tag)
    ∙ ap (plug k.around) (d.back k.rest)
    ∙ sym k.is

-- Wrap
joined_before : (s : Stmt) (b rest : Body) → joined (before s b) rest ≡ before s (joined b rest)
joined_before (If t e x y) b rest = refl
joined_before s b rest = refl

unwrapped_made : (t : Tag) (c : Content) (s : Stmt) (rest : Body) → is_action c ≡ false → unwrapped (made t c (before s done) done) rest ≡ before s rest
unwrapped_made t (content.If e) s rest h = joined_before s done rest
unwrapped_made t (content.While e) s rest h = joined_before s done rest
unwrapped_made t c s rest h = absurd cc

wrap_back : (t new : Tag) (body : Body) (s : Stmt) (old : Place) (c : Content) → Known t body s old → times new body ≡ 0 → is_action c ≡ false → at_part new unwrapped (at_part t (wrapped new c) body) ≡ body
wrap_back t new body s old c k z h =
    ap (at_part new unwrapped) (known_at t body s old k (wrapped new c))
    ∙ at_plug new unwrapped k.around (made new c (before s done) done) k.rest (omega (arith, z, ap (times new) k.is, times_plug new k.around (before s k.rest))) (same_made new c (before s done) done)
    ∙ ap (plug k.around) (unwrapped_made new c s k.rest h)
    ∙ sym k.is

-- Unwrap
firsts_joined : (a x : Body) → firsts (width a) (joined a x) ≡ a
firsts_joined done x = refl
firsts_joined (action t d rest) x = rw add-one (ap (action t d) (firsts_joined rest x))
firsts_joined (branch t e a b rest) x = rw add-one (ap (branch t e a b) (firsts_joined rest x))
firsts_joined (loop t e b rest) x = rw add-one (ap (loop t e b) (firsts_joined rest x))

later_joined : (a x : Body) → later (width a) (joined a x) ≡ x
later_joined done x = refl
later_joined (action t d rest) x = rw add-one (later_joined rest x)
later_joined (branch t e a b rest) x = rw add-one (later_joined rest x)
later_joined (loop t e b rest) x = rw add-one (later_joined rest x)

pub times_joined : (t : Tag) (a x : Body) → times t (joined a x) ≡ times t a + times t x
times_joined t done x = omega arith
times_joined t (action u d rest) x = omega (arith, times_joined t rest x)
times_joined t (branch u e a b rest) x = omega (arith, times_joined t rest x)
times_joined t (loop u e b rest) x = omega (arith, times_joined t rest x)

pub times_unwrapped : (u : Tag) (s : Stmt) (rest : Body) → times u (unwrapped s rest) ≤ times u (before s rest)
times_unwrapped u (If t e a b) rest = omega (arith, times_joined u a (joined b rest), times_joined u b rest)
times_unwrapped u (While t e b) rest = omega (arith, times_joined u b rest)
times_unwrapped u s rest = omega arith

remade : (s : Stmt) (rest : Body) → is_action (content_of s) ≡ false → before (made (tag_of s) (content_of s) (first_block s) (second_block s)) rest ≡ before s rest
remade (If t e a b) rest h = refl
remade (While t e b) rest h = refl
remade s rest h = absurd cc

rewrapped_unwrapped : (s : Stmt) (rest : Body) → is_action (content_of s) ≡ false → rewrapped (tag_of s) (content_of s) (width (first_block s)) (width (second_block s)) (unwrapped s rest) ≡ before s rest
rewrapped_unwrapped s rest h =
    rw (firsts_joined (first_block s) (joined (second_block s) rest), later_joined (first_block s) (joined (second_block s) rest), firsts_joined (second_block s) rest, later_joined (second_block s) rest) (remade s rest h)

unwrap_back : (t : Tag) (body : Body) (s : Stmt) (old : Place) → Known t body s old → is_action (content_of s) ≡ false →
    at_place old (rewrapped t (content_of s) (width (first_block s)) (width (second_block s))) (at_part t unwrapped body) ≡ body
unwrap_back t body s old k h =
    let e : tag_of s ≡ t = same_tag_is (tag_of s) t k.tag in
    rw (known_at t body s old k unwrapped)
    (known_back t body s old k (rewrapped t (content_of s) (width (first_block s)) (width (second_block s))) (unwrapped s k.rest)
    (λ u. times_unwrapped u s k.rest)
    (subst (λ y. rewrapped y (content_of s) (width (first_block s)) (width (second_block s)) (unwrapped s k.rest) ≡ before s k.rest) e (rewrapped_unwrapped s k.rest h)))

pub undone : (p : Tree) → IsProgram p → (c : Command) (author : ℕ) (q : Tree) (i : Inverse) → edited p c author ≡ becomes q i → Restores p i q
undone p is (Insert place c) author q i h =
    let a : (not (is_place place p.body) ≡ false) × _ = refuse_is _ (not (is_place place p.body)) _ q i h in
    let b : (is_spent author p.issued ≡ false) × _ = refuse_is SerialsSpent (is_spent author p.issued) _ q i a.1 in
    settled_end p _ q _ i b.1 (record { body = insert_back (next_tag author p.issued) p.body place c (once p is) (next_is_new p is author) (not_is _ a.0); finals = refl; issued = refl })
undone p is (Delete t) author q i h =
    let f : FoundIs (find_stmt t p.body) (place_of t p.body) _ q i = found_is t _ _ _ q i h in
    let k : Known t p.body f.part f.place = known t p.body f.part f.place (once p is) f.part_is f.place_is in
    settled_end p _ q _ i f.then (record { body = delete_back t p.body f.part f.place k; finals = refl; issued = refl })
undone p is (Move t place) author q i h =
    let f : FoundIs (find_stmt t p.body) (place_of t p.body) _ q i = found_is t _ _ _ q i h in
    let k : Known t p.body f.part f.place = known t p.body f.part f.place (once p is) f.part_is f.place_is in
    let a : (_ ≡ false) × _ = refuse_is _ _ _ q i f.then in
    let b : (not (is_place place (at_part t gone p.body)) ≡ false) × _ = refuse_is _ (not (is_place place (at_part t gone p.body))) _ q i a.1 in
    settled_end p _ q _ i b.1 (record { body = move_back t p.body f.part f.place place k (not_is _ b.0); finals = refl; issued = refl })
undone p is (Set t c) author q i h =
    let f : FoundIs (find_stmt t p.body) (place_of t p.body) _ q i = found_is t _ _ _ q i h in
    let k : Known t p.body f.part f.place = known t p.body f.part f.place (once p is) f.part_is f.place_is in
    let a : (not (same_kind c (content_of f.part)) ≡ false) × _ = refuse_is _ (not (same_kind c (content_of f.part))) _ q i f.then in
    settled_end p _ q _ i a.1 (record { body = set_back t p.body f.part f.place c k (not_is _ a.0); finals = refl; issued = refl })
undone p is (Wrap t c) author q i h =
    let f : FoundIs (find_stmt t p.body) (place_of t p.body) _ q i = found_is t _ _ _ q i h in
    let k : Known t p.body f.part f.place = known t p.body f.part f.place (once p is) f.part_is f.place_is in
    let a : (is_action c ≡ false) × _ = refuse_is _ (is_action c) _ q i f.then in
    let b : (is_spent author p.issued ≡ false) × _ = refuse_is SerialsSpent (is_spent author p.issued) _ q i a.1 in
    settled_end p _ q _ i b.1 (record { body = wrap_back t (next_tag author p.issued) p.body f.part f.place c k (next_is_new p is author) a.0; finals = refl; issued = refl })
undone p is (Unwrap t) author q i h =
    let f : FoundIs (find_stmt t p.body) (place_of t p.body) _ q i = found_is t _ _ _ q i h in
    let k : Known t p.body f.part f.place = known t p.body f.part f.place (once p is) f.part_is f.place_is in
    let a : (is_action (content_of f.part) ≡ false) × _ = refuse_is _ (is_action (content_of f.part)) _ q i f.then in
    settled_end p _ q _ i a.1 (record { body = unwrap_back t p.body f.part f.place k a.0; finals = refl; issued = refl })
undone p is (Finals names) author q i h =
    settled_end p _ q _ i h (record { body = refl; finals = refl; issued = refl })
