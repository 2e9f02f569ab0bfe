-- A change at a place changes what stands there alone.
use Rattle.std.proofs.Common.{◌≡◌, ℕ, zero, suc, ◌+◌, ◌-◌, ◌≤◌, Bool, true, false, Option, Some, None, ◌⊎◌, refl, ap, sym, ◌∙◌, arith, inl, inr, subst, nat_le}
use Rattle.std.proofs.lemmas.Bool.{leb-true}
use Rattle.hpr_terms.specs.declared.limits.TheConstants.{MAX_LEVELS}
use Rattle.hpr_terms.specs.declared.tag.Tag.{Tag}
use Rattle.hpr_syntax.specs.declared.tree.Stmt.{Stmt}
use Rattle.hpr_syntax.specs.declared.tree.Stmt.TheVariants.{If, While}
use Rattle.hpr_syntax.specs.Body.{Body, done, action, branch, loop}
use Rattle.hpr_syntax.specs.BodyOf.{before}
use Rattle.hpr_syntax.specs.Parts.{same_tag, find_stmt}
use Rattle.hpr_syntax.specs.Rows.{Parent, stmt_by}
use Rattle.hpr_syntax.proofs.TagLemmas.{same_tag_itself}
use Rattle.hpr_syntax.proofs.ByStructure.{before_stmt}
use Rattle.hpr_edit.specs.declared.command.Place.{Place}
use Rattle.hpr_edit.specs.Places.{width, block_in, block_in_found, block_at, is_within, is_place}
use Rattle.hpr_edit.specs.InPlace.{times}
use Rattle.hpr_edit.specs.Changes.{at_part, from, with_block, at_place}
use Rattle.hpr_edit.specs.Tested.{left_at, below, room_at}
use Rattle.hpr_edit.proofs.Around.{Around, here, past, first, second, inside, plug, into, plug_into, levels, levels_into, left_plug, place_in, no_one, absent, times_before, times_plug, at_before, at_plug, times_head, FoundIn, found_in}

-- what a place's change does to a part that has its block
abbrev pub entering : Bool → ℕ → (Body → Body) → Stmt → Body → Body
entering w j g s rest = before (with_block w (from j g) s) rest

pub from_before : (n : ℕ) (g : Body → Body) (s : Stmt) (b : Body) → from (suc n) g (before s b) ≡ before s (from n g b)
from_before n g (If t e x y) b = refl
from_before n g s b = refl

from_more : (n : ℕ) (g : Body → Body) (s : Stmt) (b : Body) → from (n + 1) g (before s b) ≡ before s (from n g b)
from_more n g s b = let e : n + 1 ≡ suc n = omega arith in rw e (from_before n g s b)

-- the place is in the same block as the whole, so many statements on
record Flat (p : Parent) (i : ℕ) (c : Around) : Type 0 where
  n : ℕ
  at : ℕ
  sum : at ≡ n + i
  place : place_in p i c ≡ record { parent = p; at = at }
  change : (g : Body → Body) (x : Body) → from n g (plug c x) ≡ plug c (g x)

-- the place is in a part's block
record Deep (p : Parent) (i : ℕ) (c : Around) : Type 0 where
  tag : Tag
  branch : Bool
  at : ℕ
  stands : 1 ≤ times tag (plug c done)
  place : place_in p i c ≡ record { parent = Some (tag, branch); at = at }
  change : (g : Body → Body) (x : Body) → times tag (plug c x) ≤ 1 → at_part tag (entering branch at g) (plug c x) ≡ plug c (g x)

deep_past : (p : Parent) (i : ℕ) (s : Stmt) (c : Around) → Deep p (i + 1) c → Deep p i (past s c)
deep_past p i s c d = record {
  tag = d.tag;
  branch = d.branch;
  at = d.at;
  stands = omega (arith, d.stands, times_before d.tag s (plug c done));
  place = d.place;
  change = λ g x le.
      at_before d.tag (entering d.branch d.at g) s (plug c x) (omega (arith, le, d.stands, times_before d.tag s (plug c x), times_plug d.tag c x))
      ∙ ap (before s) (d.change g x (omega (arith, le, times_before d.tag s (plug c x))));
}

deep_first : (p : Parent) (i : ℕ) (t : Tag) (e : _) (c : Around) (b rest : Body) → Flat (Some (t, true)) 0 c ⊎ Deep (Some (t, true)) 0 c → Deep p i (first t e c b rest)
deep_first p i t e c b rest (inl f) = record {
  tag = t;
  branch = true;
  at = f.n;
  stands = rw (same_tag_itself t) (omega arith);
  place = f.place ∙ (let h : f.at ≡ f.n = omega (arith, f.sum) in ap (λ y. record { parent = Some (t, true); at = y }) h);
  change = λ g x le. rw (same_tag_itself t) (ap (λ y. branch t e y b rest) (f.change g x));
}
deep_first p i t e c b rest (inr d) = record {
  tag = d.tag;
  branch = d.branch;
  at = d.at;
  stands = omega (arith, d.stands);
  place = d.place;
  change = λ g x le.
      rw (no_one (same_tag t d.tag) (omega (arith, le, d.stands, times_plug d.tag c x)), absent d.tag (entering d.branch d.at g) b (omega (arith, le, d.stands, times_plug d.tag c x)), absent d.tag (entering d.branch d.at g) rest (omega (arith, le, d.stands, times_plug d.tag c x)))
      (ap (λ y. branch t e y b rest) (d.change g x (omega (arith, le))));
}

deep_second : (p : Parent) (i : ℕ) (t : Tag) (e : _) (a : Body) (c : Around) (rest : Body) → Flat (Some (t, false)) 0 c ⊎ Deep (Some (t, false)) 0 c → Deep p i (second t e a c rest)
deep_second p i t e a c rest (inl f) = record {
  tag = t;
  branch = false;
  at = f.n;
  stands = rw (same_tag_itself t) (omega arith);
  place = f.place ∙ (let h : f.at ≡ f.n = omega (arith, f.sum) in ap (λ y. record { parent = Some (t, false); at = y }) h);
  change = λ g x le. rw (same_tag_itself t) (ap (λ y. branch t e a y rest) (f.change g x));
}
deep_second p i t e a c rest (inr d) = record {
  tag = d.tag;
  branch = d.branch;
  at = d.at;
  stands = omega (arith, d.stands);
  place = d.place;
  change = λ g x le.
      rw (no_one (same_tag t d.tag) (omega (arith, le, d.stands, times_plug d.tag c x)), absent d.tag (entering d.branch d.at g) a (omega (arith, le, d.stands, times_plug d.tag c x)), absent d.tag (entering d.branch d.at g) rest (omega (arith, le, d.stands, times_plug d.tag c x)))
      (ap (λ y. branch t e a y rest) (d.change g x (omega (arith, le))));
}

deep_inside : (p : Parent) (i : ℕ) (t : Tag) (e : _) (c : Around) (rest : Body) → Flat (Some (t, true)) 0 c ⊎ Deep (Some (t, true)) 0 c → Deep p i (inside t e c rest)
deep_inside p i t e c rest (inl f) = record {
  tag = t;
  branch = true;
  at = f.n;
  stands = rw (same_tag_itself t) (omega arith);
  place = f.place ∙ (let h : f.at ≡ f.n = omega (arith, f.sum) in ap (λ y. record { parent = Some (t, true); at = y }) h);
  change = λ g x le. rw (same_tag_itself t) (ap (λ y. loop t e y rest) (f.change g x));
}
deep_inside p i t e c rest (inr d) = record {
  tag = d.tag;
  branch = d.branch;
  at = d.at;
  stands = omega (arith, d.stands);
  place = d.place;
  change = λ g x le.
      rw (no_one (same_tag t d.tag) (omega (arith, le, d.stands, times_plug d.tag c x)), absent d.tag (entering d.branch d.at g) rest (omega (arith, le, d.stands, times_plug d.tag c x)))
      (ap (λ y. loop t e y rest) (d.change g x (omega (arith, le))));
}

placed : (p : Parent) (i : ℕ) (c : Around) → Flat p i c ⊎ Deep p i c
placed p i here = inl (record { n = 0; at = i; sum = omega arith; place = refl; change = λ g x. refl })
placed p i (past s c) = elim (placed p (i + 1) c) [
  | inl f ↦ inl (record { n = f.n + 1; at = f.at; sum = omega (arith, f.sum); place = f.place; change = λ g x. from_more f.n g s (plug c x) ∙ ap (before s) (f.change g x) })
  | inr d ↦ inr (deep_past p i s c d)
]
placed p i (first t e c b rest) = inr (deep_first p i t e c b rest (placed (Some (t, true)) 0 c))
placed p i (second t e a c rest) = inr (deep_second p i t e a c rest (placed (Some (t, false)) 0 c))
placed p i (inside t e c rest) = inr (deep_inside p i t e c rest (placed (Some (t, true)) 0 c))

at_placed : (c : Around) (g : Body → Body) (x : Body) → ((t : Tag) → times t (plug c x) ≤ 1) → Flat None 0 c ⊎ Deep None 0 c → at_place (place_in None 0 c) g (plug c x) ≡ plug c (g x)
at_placed c g x le (inl f) =
    let h : f.at ≡ f.n = omega (arith, f.sum) in
    rw (f.place, h) (f.change g x)
at_placed c g x le (inr d) = rw d.place (d.change g x (le d.tag))

-- a change at the place that is in this context
pub change_at : (c : Around) (g : Body → Body) (x : Body) → ((t : Tag) → times t (plug c x) ≤ 1) → at_place (place_in None 0 c) g (plug c x) ≡ plug c (g x)
change_at c g x le = at_placed c g x le (placed None 0 c)

-- a place has something around it
pub record PlacedIn (place : Place) (body : Body) : Type 0 where
  pub around : Around
  pub rest : Body
  pub is : body ≡ plug around rest
  pub change : (g : Body → Body) → at_place place g body ≡ plug around (g rest)
  pub room : room_at place.parent body ≡ MAX_LEVELS - levels around

record FlatIn (n : ℕ) (body : Body) : Type 0 where
  around : Around
  rest : Body
  is : body ≡ plug around rest
  change : (g : Body → Body) → from n g body ≡ plug around (g rest)
  flat : levels around ≡ 0

flat_more : (n : ℕ) (s : Stmt) (rest : Body) → FlatIn n rest → FlatIn (suc n) (before s rest)
flat_more n s rest f = record {
  around = past s f.around;
  rest = f.rest;
  is = ap (before s) f.is;
  change = λ g. from_before n g s rest ∙ ap (before s) (f.change g);
  flat = f.flat;
}

flat_in : (n : ℕ) (body : Body) → n ≤ width body → FlatIn n body
flat_in zero body h = record { around = here; rest = body; is = refl; change = λ g. refl; flat = refl }
flat_in (suc n) done h = absurd (omega (arith, h))
flat_in (suc n) (action t d rest) h = subst (FlatIn (suc n)) (before_stmt t d rest) (flat_more n (stmt_by t d) rest (flat_in n rest (omega (arith, h))))
flat_in (suc n) (branch t e a b rest) h = flat_more n (If t e a b) rest (flat_in n rest (omega (arith, h)))
flat_in (suc n) (loop t e b rest) h = flat_more n (While t e b) rest (flat_in n rest (omega (arith, h)))

-- a block of a part
record BlockIn (w : Bool) (s : Stmt) (rest : Body) : Type 0 where
  around : Around
  block : Body
  some : block_in w s ≡ Some block
  is : before s rest ≡ plug around block
  change : (f : Body → Body) → before (with_block w f s) rest ≡ plug around (f block)
  one : levels around ≡ 1

block_of : (w : Bool) (s : Stmt) (rest : Body) (n : ℕ) → is_within n (block_in w s) ≡ true → BlockIn w s rest
block_of true (If t e a b) rest n h = record { around = first t e here b rest; block = a; some = refl; is = refl; change = λ f. refl; one = omega arith }
block_of false (If t e a b) rest n h = record { around = second t e a here rest; block = b; some = refl; is = refl; change = λ f. refl; one = omega arith }
block_of true (While t e b) rest n h = record { around = inside t e here rest; block = b; some = refl; is = refl; change = λ f. refl; one = omega arith }
block_of w s rest n h = absurd cc

one_less : (n k m : ℕ) → m ≡ k + 1 → n - k - 1 ≡ n - m
one_less n k m h = omega (arith, h)

deep_in : (t : Tag) (w : Bool) (n : ℕ) (body : Body) (s : Stmt) → times t body ≤ 1 → find_stmt t body ≡ Some s → is_within n (block_in w s) ≡ true → PlacedIn (record { parent = Some (t, w); at = n }) body
deep_in t w n body s le fs h =
    let f : FoundIn t body s = found_in t body s fs in
    let b : BlockIn w s f.rest = block_of w s f.rest n h in
    let k : nat_le n (width b.block) ≡ true = subst (λ o. is_within n o ≡ true) b.some h in
    let l : FlatIn n b.block = flat_in n b.block (leb-true _ _ k) in
    let z : times t (plug f.around done) ≡ 0 = omega (arith, le, ap (times t) f.is, times_plug t f.around (before s f.rest), times_head t s f.rest f.tag) in
    record {
      around = into f.around (into b.around l.around);
      rest = l.rest;
      is = f.is ∙ ap (plug f.around) (b.is ∙ ap (plug b.around) l.is ∙ sym (plug_into b.around l.around l.rest)) ∙ sym (plug_into f.around (into b.around l.around) l.rest);
      change = λ g.
          ap (at_part t (entering w n g)) f.is
          ∙ at_plug t (entering w n g) f.around s f.rest z f.tag
          ∙ ap (plug f.around) (b.change (from n g) ∙ ap (plug b.around) (l.change g) ∙ sym (plug_into b.around l.around (g l.rest)))
          ∙ sym (plug_into f.around (into b.around l.around) (g l.rest));
      room =
          ap (λ x. below (left_at t MAX_LEVELS x)) f.is
          ∙ ap below (left_plug t MAX_LEVELS f.around s f.rest z f.tag)
          ∙ one_less MAX_LEVELS (levels f.around) _ (omega (arith, levels_into f.around (into b.around l.around), levels_into b.around l.around, b.one, l.flat));
    }

found_block : (t : Tag) (w : Bool) (n : ℕ) (body : Body) (o : Option Stmt) → find_stmt t body ≡ o → ((u : Tag) → times u body ≤ 1) → is_within n (block_in_found w o) ≡ true → PlacedIn (record { parent = Some (t, w); at = n }) body
found_block t w n body None e le h = absurd cc
found_block t w n body (Some s) e le h = deep_in t w n body s (le t) e h

placed_at : (p : Parent) (n : ℕ) (body : Body) → ((u : Tag) → times u body ≤ 1) → is_within n (block_at p body) ≡ true → PlacedIn (record { parent = p; at = n }) body
placed_at None n body le h =
    let l : FlatIn n body = flat_in n body (leb-true _ _ h) in
    record { around = l.around; rest = l.rest; is = l.is; change = l.change; room = let e : MAX_LEVELS ≡ MAX_LEVELS - levels l.around = omega (arith, l.flat) in e }
placed_at (Some p) n body le h = found_block p.0 p.1 n body (find_stmt p.0 body) refl le h

pub placed_in : (place : Place) (body : Body) → ((u : Tag) → times u body ≤ 1) → is_place place body ≡ true → PlacedIn place body
placed_in place body le h = placed_at place.parent place.at body le h
