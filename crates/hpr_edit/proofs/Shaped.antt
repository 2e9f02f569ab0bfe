-- Which tests of a program an edited one can fail, command by command.
use Rattle.std.proofs.Common.{◌≡◌, ℕ, zero, suc, ◌+◌, ◌-◌, ◌≤◌, Bool, true, false, if◌then◌else◌, Option, Some, None, List, [], refl, ap, sym, ◌∙◌, subst, arith}
use Rattle.std.specs.Option.{option_or, option_map}
use Rattle.std.specs.Str.{bytes_eq}
use Rattle.hpr_terms.specs.declared.limits.TheConstants.{MAX_LEVELS}
use Rattle.hpr_terms.specs.declared.tag.Tag.{Tag}
use Rattle.hpr_syntax.specs.declared.tree.Stmt.{Stmt}
use Rattle.hpr_syntax.specs.declared.tree.Stmt.TheVariants.{Assign, If, While, Write, Store}
use Rattle.hpr_syntax.specs.declared.rows.Content.{Content}
use Rattle.hpr_syntax.specs.declared.rows.Content.TheVariants as content
use Rattle.hpr_syntax.specs.declared.shape.ShapeError.{ShapeError}
use Rattle.hpr_syntax.specs.declared.shape.ShapeError.TheVariants.{ExprTooLarge, WrongName, DuplicateFinal}
use Rattle.hpr_syntax.specs.Body.{Body, done, action, branch, loop, part_count}
use Rattle.hpr_syntax.specs.BodyOf.{before}
use Rattle.hpr_syntax.specs.Parts.{same_tag, tag_of, tags_of}
use Rattle.hpr_syntax.specs.Rows.{content_of, made}
use Rattle.hpr_syntax.specs.Issued.{issued_to, raised}
use Rattle.hpr_syntax.specs.Tree.{Tree}
use Rattle.hpr_syntax.specs.Shape.{IsProgram, shape, first_repeated_tag, is_unissued, first_unissued, first_deep, says_large, is_wrong, first_where, too_many, first_repeated}
use Rattle.hpr_syntax.proofs.NoRefusal.{HasNoRefusal, no_refusal, or_none, none_in_action, none_in_branch, none_in_loop}
use Rattle.hpr_syntax.proofs.PartBound.{few}
use Rattle.hpr_syntax.proofs.TagLemmas.{same_tag_is}
use Rattle.hpr_syntax.proofs.IssuedLemmas.{raised_greater, bounds_issued}
use Rattle.hpr_edit.specs.declared.command.Place.{Place}
use Rattle.hpr_edit.specs.Places.{joined, is_place}
use Rattle.hpr_edit.specs.Changes.{at_part, at_place, gone, saying, wrapped, unwrapped}
use Rattle.hpr_edit.specs.Edited.{same_kind, is_action, next_tag, with_new}
use Rattle.hpr_edit.specs.InPlace.{one_if, times}
use Rattle.hpr_edit.specs.Tested.{left_at, below, room_at, none_left, said_refusal, deep_refusal, new_refusal, names_alone}
use Rattle.hpr_edit.proofs.Around.{Around, plug, levels, left_plug, times_before, times_plug}
use Rattle.hpr_edit.proofs.Placed.{PlacedIn, placed_in}
use Rattle.hpr_edit.proofs.Tags.{once, none_repeated, all_issued, issued_in, issued_bounds, counted, next_is_new}
use Rattle.hpr_edit.proofs.Undone.{Known, known_at, times_unwrapped}
use Rattle.hpr_edit.proofs.Fresh.{rises_if}
use Rattle.hpr_edit.proofs.Tested.{or_nothing, deep_before, deep_split, deep_plug, where_before, where_split, where_plug, parts_before, parts_plug}

-- the tests of a body that none of them refuses
pub record Fine (b : Body) : Type 0 where
  pub levels : first_deep MAX_LEVELS b ≡ None
  pub expressions : first_where says_large b ≡ None
  pub variables : first_where is_wrong b ≡ None

pub fine : (p : Tree) → IsProgram p → Fine p.body
fine p is =
    let h : HasNoRefusal p = no_refusal p is.shape in
    record { levels = h.levels; expressions = h.expressions; variables = h.variables }

-- the tests of what stands at one place of such a body
pub record Tests (c : Around) (x : Body) : Type 0 where
  pub levels : first_deep MAX_LEVELS (plug c x) ≡ first_deep (MAX_LEVELS - levels c) x
  pub expressions : first_where says_large (plug c x) ≡ first_where says_large x
  pub variables : first_where is_wrong (plug c x) ≡ first_where is_wrong x

pub tests : (c : Around) (x y : Body) → Fine (plug c y) → Tests c x
tests c x y h = record {
  levels = deep_plug c MAX_LEVELS x y h.levels;
  expressions = where_plug says_large c x y h.expressions;
  variables = where_plug is_wrong c x y h.variables;
}

-- a tree whose tags and names are in order is tested by what is left
shape_left : (q : Tree) → first_repeated_tag q.body ≡ None → first_unissued q.issued (tags_of q.body []) ≡ None → first_repeated bytes_eq [] q.finals ≡ None
    → shape q ≡ option_or (deep_refusal (first_deep MAX_LEVELS q.body))
    (option_or (option_map ExprTooLarge (first_where says_large q.body)) (option_or (option_map WrongName (first_where is_wrong q.body)) (too_many (part_count q.body))))
unfolding shape
shape_left q a b c = rw (a, b, c, or_nothing (too_many (part_count q.body))) refl

many_less : (n m : ℕ) → m ≤ n → too_many n ≡ None → too_many m ≡ None
many_less n m le h = grind (arith, few n h)

-- tags that stood before are in order
pub record InOrder (q : Tree) : Type 0 where
  pub tags : first_repeated_tag q.body ≡ None
  pub issued : first_unissued q.issued (tags_of q.body []) ≡ None
  pub names : first_repeated bytes_eq [] q.finals ≡ None

pub in_order : (p : Tree) → IsProgram p → (b : Body) → ((u : Tag) → times u b ≤ times u p.body) → InOrder (record p { body = b })
in_order p is b le = record {
  tags = none_repeated b (λ u. omega (arith, le u, once p is u));
  issued = all_issued p.issued (tags_of b []) (λ u k. issued_in p is u (omega (arith, k, counted u b [], le u)));
  names = (no_refusal p is.shape).names;
}

-- and so is the tag of a new part
new_once : (p : Tree) → IsProgram p → (author : ℕ) (u : Tag) (b : Bool) → same_tag (next_tag author p.issued) u ≡ b → times u p.body + one_if b ≤ 1
new_once p is author u true e =
    let i : times u p.body ≡ 0 = subst (λ v. times v p.body ≡ 0) (same_tag_is (next_tag author p.issued) u e) (next_is_new p is author) in
    omega (arith, i)
new_once p is author u false e = omega (arith, once p is u)

new_issued : (p : Tree) → IsProgram p → (author : ℕ) (u : Tag) (b : Bool) → same_tag (next_tag author p.issued) u ≡ b → 1 ≤ times u p.body + one_if b
    → is_unissued (raised author (issued_to author p.issued + 1) p.issued) u ≡ false
new_issued p is author u true e k =
    let i = raised author (issued_to author p.issued + 1) p.issued in
    let g : issued_to author i ≡ issued_to author p.issued + 1 = raised_greater author (issued_to author p.issued + 1) p.issued is.proper.ascending ∙ (omega arith) in
    subst (λ v. is_unissued i v ≡ false) (same_tag_is (next_tag author p.issued) u e)
    (bounds_issued i (next_tag author p.issued) (omega arith) (omega (arith, g)))
new_issued p is author u false e k =
    let old = issued_bounds p.issued u (issued_in p is u (omega (arith, k))) in
    bounds_issued (raised author (issued_to author p.issued + 1) p.issued) u old.0
    (omega (arith, old.1, rises_if _ u.author author p.issued refl is.proper.ascending))

pub new_in_order : (p : Tree) → IsProgram p → (author : ℕ) (b : Body) → ((u : Tag) → times u b ≤ times u p.body + one_if (same_tag (next_tag author p.issued) u))
    → InOrder (with_new author b p)
new_in_order p is author b le = record {
  tags = none_repeated b (λ u. omega (arith, le u, new_once p is author u _ refl));
  issued = all_issued _ (tags_of b []) (λ u k. new_issued p is author u _ refl (omega (arith, k, counted u b [], le u)));
  names = (no_refusal p is.shape).names;
}

-- what a part says, tested by itself
said_is : (l w : Bool) (t : Tag) (o : Option ShapeError)
    → option_or (option_map ExprTooLarge (if l then Some t else None)) (option_or (option_map WrongName (if w then Some t else None)) o)
    ≡ option_or (if l then Some (ExprTooLarge t) else if w then Some (WrongName t) else None) o
said_is true w t o = refl
said_is false true t o = refl
said_is false false t o = refl

-- a tree in order in which something stands at one place
pub shape_at : (q : Tree) → InOrder q → (c : Around) (x y : Body) → q.body ≡ plug c x → Fine (plug c y)
    → shape q ≡ option_or (deep_refusal (first_deep (MAX_LEVELS - levels c) x))
    (option_or (option_map ExprTooLarge (first_where says_large x)) (option_or (option_map WrongName (first_where is_wrong x)) (too_many (part_count q.body))))
shape_at q o c x y e f =
    let h : Tests c x = tests c x y f in
    shape_left q o.tags o.issued o.names
    ∙ (rw (ap (first_deep MAX_LEVELS) e ∙ h.levels, ap (first_where says_large) e ∙ h.expressions, ap (first_where is_wrong) e ∙ h.variables) refl)

-- where each test of what stands there passes, it is the shape of a program
pub fits_at : (q : Tree) → InOrder q → (c : Around) (x y : Body) → q.body ≡ plug c x → Fine (plug c y) → first_deep (MAX_LEVELS - levels c) x ≡ None
    → first_where says_large x ≡ None → first_where is_wrong x ≡ None → too_many (part_count q.body) ≡ None → shape q ≡ None
fits_at q o c x y e f d l w m = shape_at q o c x y e f ∙ (rw (d, l, w, m) refl)

-- what was at a place of a fine body is fine there
pub record FineAt (c : Around) (y : Body) : Type 0 where
  pub levels : first_deep (MAX_LEVELS - levels c) y ≡ None
  pub expressions : first_where says_large y ≡ None
  pub variables : first_where is_wrong y ≡ None

pub fine_at : (c : Around) (y : Body) → Fine (plug c y) → FineAt c y
fine_at c y f =
    let h : Tests c y = tests c y y f in
    record { levels = sym h.levels ∙ f.levels; expressions = sym h.expressions ∙ f.expressions; variables = sym h.variables ∙ f.variables }

-- Delete
pub delete_fits : (p : Tree) → IsProgram p → (t : Tag) (s : Stmt) (old : Place) → Known t p.body s old → shape (record p { body = at_part t gone p.body }) ≡ None
delete_fits p is t s old k =
    let e : at_part t gone p.body ≡ plug k.around k.rest = known_at t p.body s old k gone in
    let f : Fine (plug k.around (before s k.rest)) = subst Fine k.is (fine p is) in
    let a : FineAt k.around (before s k.rest) = fine_at k.around (before s k.rest) f in
    fits_at (record p { body = at_part t gone p.body })
    (in_order p is (at_part t gone p.body) (λ u. omega (arith, ap (times u) k.is, ap (times u) e, times_plug u k.around k.rest, times_plug u k.around (before s k.rest), times_before u s k.rest)))
    k.around k.rest (before s k.rest) e f
    (deep_split _ s k.rest a.levels).1 (where_split says_large s k.rest a.expressions).1 (where_split is_wrong s k.rest a.variables).1
    (many_less (part_count p.body) (part_count (at_part t gone p.body))
    (omega (arith, ap part_count k.is, ap part_count e, parts_plug k.around k.rest, parts_plug k.around (before s k.rest), parts_before s k.rest))
    (no_refusal p is.shape).parts)

-- Unwrap
deep_joined : (n : ℕ) (a b : Body) → first_deep n a ≡ None → first_deep n b ≡ None → first_deep n (joined a b) ≡ None
deep_joined n done b h k = k
deep_joined zero (action t d rest) b h k = absurd cc
deep_joined zero (branch t e x y rest) b h k = absurd cc
deep_joined zero (loop t e x rest) b h k = absurd cc
deep_joined (suc n) (action t d rest) b h k = deep_joined (suc n) rest b h k
deep_joined (suc n) (branch t e x y rest) b h k =
    let p = or_none (first_deep n x) _ h in
    let q = or_none (first_deep n y) _ p.1 in
    rw (p.0, q.0) (deep_joined (suc n) rest b q.1 k)
deep_joined (suc n) (loop t e x rest) b h k =
    let p = or_none (first_deep n x) _ h in
    rw p.0 (deep_joined (suc n) rest b p.1 k)

deep_less : (n : ℕ) (b : Body) → first_deep n b ≡ None → first_deep (suc n) b ≡ None
deep_less n done h = refl
deep_less zero (action t d rest) h = absurd cc
deep_less zero (branch t e x y rest) h = absurd cc
deep_less zero (loop t e x rest) h = absurd cc
deep_less (suc n) (action t d rest) h = deep_less (suc n) rest h
deep_less (suc n) (branch t e x y rest) h =
    let p = or_none (first_deep n x) _ h in
    let q = or_none (first_deep n y) _ p.1 in
    rw (deep_less n x p.0, deep_less n y q.0) (deep_less (suc n) rest q.1)
deep_less (suc n) (loop t e x rest) h =
    let p = or_none (first_deep n x) _ h in
    rw (deep_less n x p.0) (deep_less (suc n) rest p.1)

where_joined : (test : Content → Bool) (a b : Body) → first_where test a ≡ None → first_where test b ≡ None → first_where test (joined a b) ≡ None
where_joined test done b h k = k
where_joined test (action t d rest) b h k =
    let p = none_in_action test t d rest h in
    rw p.0 (where_joined test rest b p.1 k)
where_joined test (branch t e x y rest) b h k =
    let p = none_in_branch test t e x y rest h in
    rw (p.0, p.1, p.2) (where_joined test rest b p.3 k)
where_joined test (loop t e x rest) b h k =
    let p = none_in_loop test t e x rest h in
    rw (p.0, p.1) (where_joined test rest b p.2 k)

parts_joined : (a b : Body) → part_count (joined a b) ≡ part_count a + part_count b
parts_joined done b = omega arith
parts_joined (action t d rest) b = omega (arith, parts_joined rest b)
parts_joined (branch t e x y rest) b = omega (arith, parts_joined rest b)
parts_joined (loop t e x rest) b = omega (arith, parts_joined rest b)

deep_unwrapped : (n : ℕ) (s : Stmt) (rest : Body) → first_deep n (before s rest) ≡ None → first_deep n (unwrapped s rest) ≡ None
deep_unwrapped zero (If t e a b) rest h = absurd cc
deep_unwrapped zero (While t e b) rest h = absurd cc
deep_unwrapped (suc n) (If t e a b) rest h =
    let p = or_none (first_deep n a) _ h in
    let q = or_none (first_deep n b) _ p.1 in
    deep_joined (suc n) a (joined b rest) (deep_less n a p.0) (deep_joined (suc n) b rest (deep_less n b q.0) q.1)
deep_unwrapped (suc n) (While t e b) rest h =
    let p = or_none (first_deep n b) _ h in
    deep_joined (suc n) b rest (deep_less n b p.0) p.1
deep_unwrapped n s rest h = (deep_split n s rest h).1

where_unwrapped : (test : Content → Bool) (s : Stmt) (rest : Body) → first_where test (before s rest) ≡ None → first_where test (unwrapped s rest) ≡ None
where_unwrapped test (If t e a b) rest h =
    let p = none_in_branch test t e a b rest h in
    where_joined test a (joined b rest) p.1 (where_joined test b rest p.2 p.3)
where_unwrapped test (While t e b) rest h =
    let p = none_in_loop test t e b rest h in
    where_joined test b rest p.1 p.2
where_unwrapped test s rest h = (where_split test s rest h).1

parts_unwrapped : (s : Stmt) (rest : Body) → part_count (unwrapped s rest) ≤ part_count (before s rest)
parts_unwrapped (If t e a b) rest = omega (arith, parts_joined a (joined b rest), parts_joined b rest)
parts_unwrapped (While t e b) rest = omega (arith, parts_joined b rest)
parts_unwrapped s rest = omega arith

pub unwrap_fits : (p : Tree) → IsProgram p → (t : Tag) (s : Stmt) (old : Place) → Known t p.body s old → shape (record p { body = at_part t unwrapped p.body }) ≡ None
unwrap_fits p is t s old k =
    let e : at_part t unwrapped p.body ≡ plug k.around (unwrapped s k.rest) = known_at t p.body s old k unwrapped in
    let f : Fine (plug k.around (before s k.rest)) = subst Fine k.is (fine p is) in
    let a : FineAt k.around (before s k.rest) = fine_at k.around (before s k.rest) f in
    fits_at (record p { body = at_part t unwrapped p.body })
    (in_order p is (at_part t unwrapped p.body)
    (λ u. omega (arith, ap (times u) k.is, ap (times u) e, times_plug u k.around (unwrapped s k.rest), times_plug u k.around (before s k.rest), times_unwrapped u s k.rest)))
    k.around (unwrapped s k.rest) (before s k.rest) e f
    (deep_unwrapped _ s k.rest a.levels) (where_unwrapped says_large s k.rest a.expressions) (where_unwrapped is_wrong s k.rest a.variables)
    (many_less (part_count p.body) (part_count (at_part t unwrapped p.body))
    (omega (arith, ap part_count k.is, ap part_count e, parts_plug k.around (unwrapped s k.rest), parts_plug k.around (before s k.rest), parts_unwrapped s k.rest))
    (no_refusal p is.shape).parts)

-- Set
deep_saying : (n : ℕ) (c : Content) (s : Stmt) (rest : Body) → same_kind c (content_of s) ≡ true → first_deep n (saying c s rest) ≡ first_deep n (before s rest)
deep_saying zero (content.If e) (If t f a b) rest h = refl
deep_saying (suc n) (content.If e) (If t f a b) rest h = refl
deep_saying zero (content.While e) (While t f b) rest h = refl
deep_saying (suc n) (content.While e) (While t f b) rest h = refl
deep_saying zero (content.Assign x e) (Assign t y f) rest h = refl
deep_saying (suc n) (content.Assign x e) (Assign t y f) rest h = refl
deep_saying zero (content.Write x e) (Write t y f) rest h = refl
deep_saying (suc n) (content.Write x e) (Write t y f) rest h = refl
deep_saying zero (content.Store x i e) (Store t y j f) rest h = refl
deep_saying (suc n) (content.Store x i e) (Store t y j f) rest h = refl
deep_saying n c s rest h = absurd cc

where_saying : (test : Content → Bool) (c : Content) (s : Stmt) (rest : Body) → same_kind c (content_of s) ≡ true → first_where test (before s rest) ≡ None
    → first_where test (saying c s rest) ≡ (if test c then Some (tag_of s) else None)
where_saying test (content.If e) (If t f a b) rest h k = let p = none_in_branch test t f a b rest k in rw (p.1, p.2, p.3) refl
where_saying test (content.While e) (While t f b) rest h k = let p = none_in_loop test t f b rest k in rw (p.1, p.2) refl
where_saying test (content.Assign x e) (Assign t y f) rest h k = rw (where_split test (Assign t y f) rest k).1 refl
where_saying test (content.Write x e) (Write t y f) rest h k = rw (where_split test (Write t y f) rest k).1 refl
where_saying test (content.Store x i e) (Store t y j f) rest h k = rw (where_split test (Store t y j f) rest k).1 refl
where_saying test c s rest h k = absurd cc

parts_saying : (c : Content) (s : Stmt) (rest : Body) → same_kind c (content_of s) ≡ true → part_count (saying c s rest) ≡ part_count (before s rest)
parts_saying (content.If e) (If t f a b) rest h = refl
parts_saying (content.While e) (While t f b) rest h = refl
parts_saying (content.Assign x e) (Assign t y f) rest h = refl
parts_saying (content.Write x e) (Write t y f) rest h = refl
parts_saying (content.Store x i e) (Store t y j f) rest h = refl
parts_saying c s rest h = absurd cc

times_saying : (u : Tag) (c : Content) (s : Stmt) (rest : Body) → same_kind c (content_of s) ≡ true → times u (saying c s rest) ≡ times u (before s rest)
times_saying u (content.If e) (If t f a b) rest h = refl
times_saying u (content.While e) (While t f b) rest h = refl
times_saying u (content.Assign x e) (Assign t y f) rest h = refl
times_saying u (content.Write x e) (Write t y f) rest h = refl
times_saying u (content.Store x i e) (Store t y j f) rest h = refl
times_saying u c s rest h = absurd cc

pub set_tested : (p : Tree) → IsProgram p → (t : Tag) (s : Stmt) (old : Place) (c : Content) → Known t p.body s old → same_kind c (content_of s) ≡ true
    → shape (record p { body = at_part t (saying c) p.body }) ≡ said_refusal t c
set_tested p is t s old c k h =
    let b : Body = at_part t (saying c) p.body in
    let q : Tree = record p { body = b } in
    let e : b ≡ plug k.around (saying c s k.rest) = known_at t p.body s old k (saying c) in
    let f : Fine (plug k.around (before s k.rest)) = subst Fine k.is (fine p is) in
    let a : FineAt k.around (before s k.rest) = fine_at k.around (before s k.rest) f in
    let o : InOrder q = in_order p is b
    (λ u. omega (arith, ap (times u) k.is, ap (times u) e, times_plug u k.around (saying c s k.rest), times_plug u k.around (before s k.rest), times_saying u c s k.rest h)) in
    let m : too_many (part_count b) ≡ None = many_less (part_count p.body) (part_count b)
    (omega (arith, ap part_count k.is, ap part_count e, parts_plug k.around (saying c s k.rest), parts_plug k.around (before s k.rest), parts_saying c s k.rest h))
    (no_refusal p is.shape).parts in
    let tag : tag_of s ≡ t = same_tag_is (tag_of s) t k.tag in
    let d : first_deep (MAX_LEVELS - levels k.around) (saying c s k.rest) ≡ None = deep_saying (MAX_LEVELS - levels k.around) c s k.rest h ∙ a.levels in
    let l : first_where says_large (saying c s k.rest) ≡ (if says_large c then Some t else None) =
    where_saying says_large c s k.rest h a.expressions ∙ ap (λ x. if says_large c then Some x else None) tag in
    let w : first_where is_wrong (saying c s k.rest) ≡ (if is_wrong c then Some t else None) =
    where_saying is_wrong c s k.rest h a.variables ∙ ap (λ x. if is_wrong c then Some x else None) tag in
    shape_at q o k.around (saying c s k.rest) (before s k.rest) e f
    ∙ (rw (d, l, w, m) (said_is (says_large c) (is_wrong c) t None ∙ or_nothing (said_refusal t c)))

-- Insert
deep_made : (n : ℕ) (t : Tag) (c : Content) (rest : Body) → first_deep n rest ≡ None → first_deep n (before (made t c done done) rest) ≡ none_left n t
deep_made zero t (content.If e) rest h = refl
deep_made zero t (content.While e) rest h = refl
deep_made zero t (content.Assign x e) rest h = refl
deep_made zero t (content.Write x e) rest h = refl
deep_made zero t (content.Store x i e) rest h = refl
deep_made (suc n) t (content.If e) rest h = h
deep_made (suc n) t (content.While e) rest h = h
deep_made (suc n) t (content.Assign x e) rest h = h
deep_made (suc n) t (content.Write x e) rest h = h
deep_made (suc n) t (content.Store x i e) rest h = h

where_made : (test : Content → Bool) (t : Tag) (c : Content) (rest : Body) → first_where test rest ≡ None → first_where test (before (made t c done done) rest) ≡ (if test c then Some t else None)
where_made test t (content.If e) rest h = rw h refl
where_made test t (content.While e) rest h = rw h refl
where_made test t (content.Assign x e) rest h = rw h refl
where_made test t (content.Write x e) rest h = rw h refl
where_made test t (content.Store x i e) rest h = rw h refl

parts_made : (t : Tag) (c : Content) (rest : Body) → part_count (before (made t c done done) rest) ≡ part_count rest + 1
parts_made t (content.If e) rest = omega arith
parts_made t (content.While e) rest = omega arith
parts_made t c rest = omega arith

times_new : (u t : Tag) (c : Content) (rest : Body) → times u (before (made t c done done) rest) ≡ one_if (same_tag t u) + times u rest
times_new u t (content.If e) rest = omega arith
times_new u t (content.While e) rest = omega arith
times_new u t c rest = omega arith

pub insert_tested : (p : Tree) → IsProgram p → (place : Place) (c : Content) (author : ℕ) → is_place place p.body ≡ true
    → shape (with_new author (at_place place (before (made (next_tag author p.issued) c done done)) p.body) p)
    ≡ new_refusal (none_left (room_at place.parent p.body) (next_tag author p.issued)) (next_tag author p.issued) c (part_count p.body + 1)
insert_tested p is place c author h =
    let new : Tag = next_tag author p.issued in
    let g : Body → Body = before (made new c done done) in
    let b : Body = at_place place g p.body in
    let q : Tree = with_new author b p in
    let k : PlacedIn place p.body = placed_in place p.body (once p is) h in
    let e : b ≡ plug k.around (g k.rest) = k.change g in
    let f : Fine (plug k.around k.rest) = subst Fine k.is (fine p is) in
    let a : FineAt k.around k.rest = fine_at k.around k.rest f in
    let o : InOrder q = new_in_order p is author b
    (λ u. omega (arith, ap (times u) k.is, ap (times u) e, times_plug u k.around (g k.rest), times_plug u k.around k.rest, times_new u new c k.rest)) in
    let n : part_count b ≡ part_count p.body + 1 =
    omega (arith, ap part_count k.is, ap part_count e, parts_plug k.around (g k.rest), parts_plug k.around k.rest, parts_made new c k.rest) in
    shape_at q o k.around (g k.rest) k.rest e f
    ∙ (rw (deep_made (MAX_LEVELS - levels k.around) new c k.rest a.levels, where_made says_large new c k.rest a.expressions, where_made is_wrong new c k.rest a.variables, n)
    (ap (option_or (deep_refusal (none_left (MAX_LEVELS - levels k.around) new))) (said_is (says_large c) (is_wrong c) new (too_many (part_count p.body + 1)))
    ∙ ap (λ m. new_refusal (none_left m new) new c (part_count p.body + 1)) (sym k.room)))

-- Wrap
deep_wrapped : (n : ℕ) (t : Tag) (c : Content) (s : Stmt) (rest : Body) → is_action c ≡ false → first_deep n (before s rest) ≡ None
    → first_deep n (wrapped t c s rest) ≡ first_deep (n - 1) (before s done)
deep_wrapped zero t c (If u e a b) rest h k = absurd cc
deep_wrapped zero t c (While u e b) rest h k = absurd cc
deep_wrapped zero t c (Assign u x e) rest h k = absurd cc
deep_wrapped zero t c (Write u x e) rest h k = absurd cc
deep_wrapped zero t c (Store u x i e) rest h k = absurd cc
deep_wrapped (suc n) t (content.If e) s rest h k =
    let m : n ≡ suc n - 1 = omega arith in
    rw (deep_split (suc n) s rest k).1 (or_nothing (first_deep n (before s done)) ∙ ap (λ i. first_deep i (before s done)) m)
deep_wrapped (suc n) t (content.While e) s rest h k =
    let m : n ≡ suc n - 1 = omega arith in
    rw (deep_split (suc n) s rest k).1 (or_nothing (first_deep n (before s done)) ∙ ap (λ i. first_deep i (before s done)) m)
deep_wrapped (suc n) t c s rest h k = absurd cc

where_wrapped : (test : Content → Bool) (t : Tag) (c : Content) (s : Stmt) (rest : Body) → is_action c ≡ false → first_where test (before s rest) ≡ None
    → first_where test (wrapped t c s rest) ≡ (if test c then Some t else None)
where_wrapped test t (content.If e) s rest h k = let p = where_split test s rest k in rw (p.0, p.1) refl
where_wrapped test t (content.While e) s rest h k = let p = where_split test s rest k in rw (p.0, p.1) refl
where_wrapped test t c s rest h k = absurd cc

parts_wrapped : (t : Tag) (c : Content) (s : Stmt) (rest : Body) → is_action c ≡ false → part_count (wrapped t c s rest) ≡ part_count (before s rest) + 1
parts_wrapped t (content.If e) s rest h = omega (arith, parts_before s rest)
parts_wrapped t (content.While e) s rest h = omega (arith, parts_before s rest)
parts_wrapped t c s rest h = absurd cc

times_wrapped : (u t : Tag) (c : Content) (s : Stmt) (rest : Body) → is_action c ≡ false → times u (wrapped t c s rest) ≡ one_if (same_tag t u) + times u (before s rest)
times_wrapped u t (content.If e) s rest h = omega (arith, times_before u s rest)
times_wrapped u t (content.While e) s rest h = omega (arith, times_before u s rest)
times_wrapped u t c s rest h = absurd cc

pub wrap_tested : (p : Tree) → IsProgram p → (t : Tag) (s : Stmt) (old : Place) (c : Content) (author : ℕ) → Known t p.body s old → is_action c ≡ false
    → shape (with_new author (at_part t (wrapped (next_tag author p.issued) c) p.body) p)
    ≡ new_refusal (first_deep (below (left_at t MAX_LEVELS p.body)) (before s done)) (next_tag author p.issued) c (part_count p.body + 1)
wrap_tested p is t s old c author k h =
    let new : Tag = next_tag author p.issued in
    let b : Body = at_part t (wrapped new c) p.body in
    let q : Tree = with_new author b p in
    let x : Body = wrapped new c s k.rest in
    let e : b ≡ plug k.around x = known_at t p.body s old k (wrapped new c) in
    let f : Fine (plug k.around (before s k.rest)) = subst Fine k.is (fine p is) in
    let a : FineAt k.around (before s k.rest) = fine_at k.around (before s k.rest) f in
    let o : InOrder q = new_in_order p is author b
    (λ u. omega (arith, ap (times u) k.is, ap (times u) e, times_plug u k.around x, times_plug u k.around (before s k.rest), times_wrapped u new c s k.rest h)) in
    let n : part_count b ≡ part_count p.body + 1 =
    omega (arith, ap part_count k.is, ap part_count e, parts_plug k.around x, parts_plug k.around (before s k.rest), parts_wrapped new c s k.rest h) in
    let l : left_at t MAX_LEVELS p.body ≡ Some (MAX_LEVELS - levels k.around) =
    ap (left_at t MAX_LEVELS) k.is ∙ left_plug t MAX_LEVELS k.around s k.rest k.absent k.tag in
    shape_at q o k.around x (before s k.rest) e f
    ∙ (rw (deep_wrapped (MAX_LEVELS - levels k.around) new c s k.rest h a.levels, where_wrapped says_large new c s k.rest h a.expressions, where_wrapped is_wrong new c s k.rest h a.variables, n)
    (ap (option_or (deep_refusal (first_deep (MAX_LEVELS - levels k.around - 1) (before s done)))) (said_is (says_large c) (is_wrong c) new (too_many (part_count p.body + 1)))
    ∙ ap (λ m. new_refusal (first_deep (below m) (before s done)) new c (part_count p.body + 1)) (sym l)))

-- Move
pub move_tested : (p : Tree) → IsProgram p → (t : Tag) (s : Stmt) (old place : Place) → Known t p.body s old → is_place place (at_part t gone p.body) ≡ true
    → shape (record p { body = at_place place (before s) (at_part t gone p.body) })
    ≡ deep_refusal (first_deep (room_at place.parent (at_part t gone p.body)) (before s done))
move_tested p is t s old place k h =
    let left : Body = at_part t gone p.body in
    let b : Body = at_place place (before s) left in
    let q : Tree = record p { body = b } in
    let e : left ≡ plug k.around k.rest = known_at t p.body s old k gone in
    let le : (u : Tag) → times u left ≤ 1 = λ u. omega (arith, ap (times u) e, k.once u, times_plug u k.around k.rest, times_plug u k.around (before s k.rest), times_before u s k.rest) in
    let l : PlacedIn place left = placed_in place left le h in
    let i : b ≡ plug l.around (before s l.rest) = l.change (before s) in
    let f : Fine (plug k.around (before s k.rest)) = subst Fine k.is (fine p is) in
    let a : FineAt k.around (before s k.rest) = fine_at k.around (before s k.rest) f in
    let d = deep_split _ s k.rest a.levels in
    let x = where_split says_large s k.rest a.expressions in
    let w = where_split is_wrong s k.rest a.variables in
    let g : Tests k.around k.rest = tests k.around k.rest (before s k.rest) f in
    let r : Fine (plug k.around k.rest) = record { levels = g.levels ∙ d.1; expressions = g.expressions ∙ x.1; variables = g.variables ∙ w.1 } in
    let z : Fine (plug l.around l.rest) = subst Fine l.is (subst Fine (sym e) r) in
    let y : FineAt l.around l.rest = fine_at l.around l.rest z in
    let o : InOrder q = in_order p is b
    (λ u. omega (arith, ap (times u) k.is, ap (times u) e, ap (times u) l.is, ap (times u) i, times_plug u k.around k.rest, times_plug u k.around (before s k.rest), times_before u s k.rest, times_plug u l.around l.rest, times_plug u l.around (before s l.rest), times_before u s l.rest)) in
    let n : too_many (part_count b) ≡ None = many_less (part_count p.body) (part_count b)
    (omega (arith, ap part_count k.is, ap part_count e, ap part_count l.is, ap part_count i, parts_plug k.around k.rest, parts_plug k.around (before s k.rest), parts_before s k.rest, parts_plug l.around l.rest, parts_plug l.around (before s l.rest), parts_before s l.rest))
    (no_refusal p is.shape).parts in
    shape_at q o l.around (before s l.rest) l.rest i z
    ∙ (rw (deep_before (MAX_LEVELS - levels l.around) s l.rest, y.levels, where_before says_large s l.rest, x.0, y.expressions, where_before is_wrong s l.rest, w.0, y.variables, n)
    (or_nothing _ ∙ ap deep_refusal (or_nothing (first_deep (MAX_LEVELS - levels l.around) (before s done)) ∙ ap (λ m. first_deep m (before s done)) (sym l.room))))

-- Finals
finals_tested : (p : Tree) → IsProgram p → (names : List (List ℕ)) → shape (record p { finals = names }) ≡ option_map DuplicateFinal (first_repeated bytes_eq [] names)
unfolding shape
finals_tested p is names =
    let h : HasNoRefusal p = no_refusal p is.shape in
    rw (h.tags, h.issued, h.levels, h.expressions, h.variables, h.parts) refl

-- they are tested by themselves
alone_tested : (names : List (List ℕ)) → shape (names_alone names) ≡ option_map DuplicateFinal (first_repeated bytes_eq [] names)
unfolding shape
alone_tested names = refl

pub finals_alone : (p : Tree) → IsProgram p → (names : List (List ℕ)) → shape (record p { finals = names }) ≡ shape (names_alone names)
finals_alone p is names = finals_tested p is names ∙ sym (alone_tested names)
