-- A part that goes into the hand, and what was in the hand in its place.
use Rattle.std.proofs.Common.{◌≡◌, ℕ, zero, suc, ◌+◌, ◌≤◌, ◌<◌, Bool, true, false, cond, Option, Some, None, List, [], ◌∷◌, take, drop, length, get_or, refl, ap, sym, ◌∙◌, arith}
use Rattle.std.specs.Option.{option_or, unwrap_or}
use Rattle.hpr_terms.specs.declared.tag.Tag.{Tag}
use Rattle.hpr_terms.specs.declared.expr.Expr.{Expr}
use Rattle.hpr_syntax.specs.declared.tree.Stmt.{Stmt}
use Rattle.hpr_syntax.specs.declared.tree.Stmt.TheVariants.{If, While}
use Rattle.hpr_syntax.specs.Body.{Body, done, action, branch, loop, part_count}
use Rattle.hpr_syntax.specs.BodyOf.{before, body_of}
use Rattle.hpr_syntax.specs.Parts.{same_tag, tag_of, find_stmt}
use Rattle.hpr_syntax.specs.Rows.{stmt_by}
use Rattle.hpr_syntax.proofs.NoRefusal.{or_none}
use Rattle.hpr_edit.specs.Changes.{at_part, gone, first_block, second_block}
use Rattle.hpr_edit.specs.InPlace.{times, one_if, placing, found_within}
use Rattle.hpr_edit.specs.Places.{width}
use Rattle.hpr_edit.proofs.Around.{plug, absent, absent_found, times_before, times_plug, times_head, find_before, find_head, at_plug, FoundIn, found_in}
use Rattle.hpr_edit.proofs.Tested.{or_nothing, parts_before, parts_plug}
use Rattle.hpr_edit.proofs.Lists.{Visit}

-- in the blocks of a part
pub none_within : (t : Tag) (s : Stmt) → times t (before s done) ≡ 0 → found_within t s ≡ None
none_within t (If u e a b) h = rw (absent_found t a (omega (arith, h)), absent_found t b (omega (arith, h))) refl
none_within t (While u e b) h = absent_found t b (omega (arith, h))
none_within t s h = refl

find_holding : (t : Tag) (s : Stmt) (rest : Body) → same_tag (tag_of s) t ≡ false → times t rest ≡ 0 → find_stmt t (before s rest) ≡ found_within t s
find_holding t (If u e a b) rest h z = rw (h, absent_found t rest z, or_nothing (find_stmt t b)) refl
find_holding t (While u e b) rest h z = rw (h, absent_found t rest z) (or_nothing (find_stmt t b))
find_holding t s rest h z = rw h (absent_found t rest z)

-- past the parts that were looked at
find_after : (t : Tag) (n : ℕ) (xs : List Stmt) (d : Stmt) → n < length xs → times t (body_of (take n xs)) ≡ 0
    → find_stmt t (body_of xs) ≡ find_stmt t (before (get_or xs n d) (body_of (drop (suc n) xs)))
find_after t n [] d h z = absurd (omega (arith, h))
find_after t zero (s ∷ xs) d h z = refl
find_after t (suc n) (s ∷ xs) d h z =
    let k = times_before t s (body_of (take n xs)) in
    find_before t s (body_of xs) (omega (arith, z, k)) ∙ find_after t n xs d (omega (arith, h)) (omega (arith, z, k))

-- where the walk comes to the part itself
pub found_here : (t : Tag) (n : ℕ) (xs : List Stmt) (b : Body) (d : Stmt) → n < length xs → times t (body_of (take n xs)) ≡ 0 → body_of xs ≡ b → d ≡ get_or xs n d
    → same_tag (tag_of d) t ≡ true → find_stmt t b ≡ Some d
found_here t n xs b d h z e v is =
    ap (find_stmt t) (sym e)
    ∙ find_after t n xs d h z
    ∙ ap (λ s. find_stmt t (before s (body_of (drop (suc n) xs)))) (sym v)
    ∙ find_head t d (body_of (drop (suc n) xs)) is

-- and where it goes in
pub found_there : (t : Tag) (n : ℕ) (xs : List Stmt) (b : Body) (d : Stmt) → Visit t n xs b d → body_of xs ≡ b → times t b ≤ 1 → d ≡ get_or xs n d
    → same_tag (tag_of d) t ≡ false → one_if (same_tag (tag_of d) t) + 1 ≡ times t (before d done) → find_stmt t b ≡ found_within t d
found_there t n xs b d k e le v other found =
    ap (find_stmt t) (sym e)
    ∙ find_after t n xs d k.below k.none
    ∙ ap (λ s. find_stmt t (before s (body_of (drop (suc n) xs)))) (sym v)
    ∙ find_holding t d (body_of (drop (suc n) xs)) other (omega (arith, k.here, found, le, ap (times t) e))

-- the first of two blocks holds it
pub held_yes : (t u : Tag) (e : Expr) (a b : Body) (hand : Option Stmt) → times t (before (If u e a b) done) ≤ 1 → 1 ≡ times t a
    → option_or (find_stmt t a) hand ≡ option_or (found_within t (If u e a b)) hand
held_yes t u e a b hand le h = rw (absent_found t b (omega (arith, le, h)), or_nothing (find_stmt t a)) refl

-- a tag that isn't found doesn't stand there
cond_none : (c : Bool) (s : Stmt) (o : Option Stmt) → cond c (Some s) o ≡ None → (c ≡ false) × (o ≡ None)
cond_none true s o h = absurd cc
cond_none false s o h = (refl, h)

pub none_stands : (t : Tag) (b : Body) → find_stmt t b ≡ None → times t b ≡ 0
none_stands t done h = refl
none_stands t (action u d rest) h =
    let p = cond_none (same_tag u t) (stmt_by u d) (find_stmt t rest) h in
    omega (arith, ap one_if p.0, none_stands t rest p.1)
none_stands t (branch u e a b rest) h =
    let p = cond_none (same_tag u t) (If u e a b) (option_or (find_stmt t a) (option_or (find_stmt t b) (find_stmt t rest))) h in
    let q = or_none (find_stmt t a) (option_or (find_stmt t b) (find_stmt t rest)) p.1 in
    let r = or_none (find_stmt t b) (find_stmt t rest) q.1 in
    omega (arith, ap one_if p.0, none_stands t a q.0, none_stands t b r.0, none_stands t rest r.1)
none_stands t (loop u e b rest) h =
    let p = cond_none (same_tag u t) (While u e b) (option_or (find_stmt t b) (find_stmt t rest)) h in
    let q = or_none (find_stmt t b) (find_stmt t rest) p.1 in
    omega (arith, ap one_if p.0, none_stands t b q.0, none_stands t rest q.1)

-- the blocks of a part have no more parts than it has
pub width_parts : (b : Body) → width b ≤ part_count b
width_parts done = omega arith
width_parts (action t d rest) = omega (arith, width_parts rest)
width_parts (branch t e a b rest) = omega (arith, width_parts rest)
width_parts (loop t e b rest) = omega (arith, width_parts rest)

widths_parts : (s : Stmt) → width (first_block s) + width (second_block s) ≤ part_count (before s done)
widths_parts (If t e a b) = omega (arith, width_parts a, width_parts b)
widths_parts (While t e b) = omega (arith, width_parts b)
widths_parts s = omega arith

-- what was in the hand is exchanged again
module _ (t : Tag) (b : Body) (d : Stmt) (le : times t b ≤ 1) where
  module _ (s : Stmt) (fs : find_stmt t b ≡ Some s) where
    at : FoundIn t b s
    at = found_in t b s fs

    alone : times t (plug at.around done) ≡ 0
    alone = omega (arith, le, ap (times t) at.is, times_plug t at.around (before s at.rest), times_head t s at.rest at.tag)

    changed : (f : Stmt → Body → Body) → at_part t f b ≡ plug at.around (f s at.rest)
    changed f = ap (at_part t f) at.is ∙ at_plug t f at.around s at.rest alone at.tag

    again_found : (f g : Stmt → Body → Body) → same_tag (tag_of d) t ≡ true → ((r : Body) → g d r ≡ f s r) → at_part t g (at_part t (placing (Some d)) b) ≡ at_part t f b
    again_found f g is e =
        ap (at_part t g) (changed (placing (Some d)))
        ∙ at_plug t g at.around d at.rest alone is
        ∙ ap (plug at.around) (e at.rest)
        ∙ sym (changed f)

    once_found : times t (before d done) ≤ 1 → times t (at_part t (placing (Some d)) b) ≤ 1
    once_found one =
        let e = ap (times t) (changed (placing (Some d))) in
        omega (arith, e, one, alone, le, ap (times t) at.is, times_plug t at.around (before s at.rest), times_plug t at.around (before d at.rest), times_before t d at.rest, times_head t s done at.tag, times_before t s at.rest)

    parts_found : part_count (before s done) ≤ part_count b
    parts_found = omega (arith, ap part_count at.is, parts_plug at.around (before s at.rest), parts_before s at.rest)

    parts_left : part_count (at_part t gone b) ≤ part_count b
    parts_left =
        omega (arith, ap part_count (changed gone), ap part_count at.is, parts_plug at.around (before s at.rest), parts_plug at.around at.rest, parts_before s at.rest)

  pub exchanged_again : (o : Option Stmt) → find_stmt t b ≡ o → (f g : Stmt → Body → Body) → same_tag (tag_of d) t ≡ true → ((r : Body) → g d r ≡ f (unwrap_or o d) r)
      → at_part t g (at_part t (placing (Some d)) b) ≡ at_part t f b
  exchanged_again (Some s) fs f g is e = again_found s fs f g is e
  exchanged_again None fs f g is e =
      let z = none_stands t b fs in
      ap (at_part t g) (absent t (placing (Some d)) b z) ∙ absent t g b z ∙ sym (absent t f b z)

  pub once_exchanged : (o : Option Stmt) → find_stmt t b ≡ o → times t (before d done) ≤ 1 → times t (at_part t (placing (Some d)) b) ≤ 1
  once_exchanged (Some s) fs one = once_found s fs one
  once_exchanged None fs one = let e = absent t (placing (Some d)) b (none_stands t b fs) in omega (arith, ap (times t) e, le)

  -- and no more than the whole
  pub room_within : (o : Option Stmt) (n : ℕ) → find_stmt t b ≡ o → width (first_block d) + width (second_block d) ≡ 0 → part_count b < n
      → width (first_block (unwrap_or o d)) + width (second_block (unwrap_or o d)) < n
  room_within (Some s) n fs z h = omega (arith, h, parts_found s fs, widths_parts s)
  room_within None n fs z h = omega (arith, h, z)

-- a part that is taken out
fewer_by : (t : Tag) (b : Body) (o : Option Stmt) → times t b ≤ 1 → find_stmt t b ≡ o → part_count (at_part t gone b) ≤ part_count b
fewer_by t b (Some s) le fs = parts_left t b s le s fs
fewer_by t b None le fs = let e = absent t gone b (none_stands t b fs) in omega (arith, ap part_count e)

pub fewer : (t : Tag) (b : Body) → times t b ≤ 1 → part_count (at_part t gone b) ≤ part_count b
fewer t b le = fewer_by t b (find_stmt t b) le refl
