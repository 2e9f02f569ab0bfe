-- The tests of a body in which something else stands at one place.
use Rattle.std.proofs.Common.{◌≡◌, ℕ, zero, suc, ◌+◌, ◌-◌, Bool, true, false, if◌then◌else◌, Option, Some, None, refl, ap, sym, ◌∙◌, arith}
use Rattle.std.specs.Option.{option_or}
use Rattle.hpr_terms.specs.declared.tag.Tag.{Tag}
use Rattle.hpr_syntax.specs.declared.tree.Stmt.{Stmt}
use Rattle.hpr_syntax.specs.declared.tree.Stmt.TheVariants.{Assign, If, While, Write, Store}
use Rattle.hpr_syntax.specs.declared.rows.Content.{Content}
use Rattle.hpr_syntax.specs.declared.rows.Content.TheVariants as content
use Rattle.hpr_syntax.specs.Body.{Body, done, part_count}
use Rattle.hpr_syntax.specs.BodyOf.{before}
use Rattle.hpr_syntax.specs.Shape.{first_deep, first_where}
use Rattle.hpr_syntax.proofs.NoRefusal.{or_none, none_in_branch, none_in_loop}
use Rattle.hpr_edit.proofs.Around.{Around, here, past, first, second, inside, plug, levels}

pub or_nothing : {X : Type 0} (o : Option X) → option_or o None ≡ o
or_nothing None = refl
or_nothing (Some x) = refl

or_or : {X : Type 0} (a b c : Option X) → option_or a (option_or b c) ≡ option_or (option_or a b) c
or_or None b c = refl
or_or (Some x) b c = refl

-- of a block by its first part and the rest
pub deep_before : (n : ℕ) (s : Stmt) (b : Body) → first_deep n (before s b) ≡ option_or (first_deep n (before s done)) (first_deep n b)
deep_before zero (If t e x y) b = refl
deep_before zero s b = refl
deep_before (suc n) (If t e x y) b =
    rw (or_nothing (first_deep n y)) (or_or (first_deep n x) (first_deep n y) (first_deep (suc n) b))
deep_before (suc n) (While t e x) b = rw (or_nothing (first_deep n x)) refl
deep_before (suc n) s b = refl

where_if : (c : Bool) (t : Tag) (x y z : Option Tag) → x ≡ option_or y z → (if c then Some t else x) ≡ option_or (if c then Some t else y) z
where_if true t x y z h = refl
where_if false t x y z h = h

pub where_before : (test : Content → Bool) (s : Stmt) (b : Body) → first_where test (before s b) ≡ option_or (first_where test (before s done)) (first_where test b)
where_before test (Assign t x e) b = where_if (test (content.Assign x e)) t _ None (first_where test b) refl
where_before test (If t e x y) b =
    where_if (test (content.If e)) t _ (option_or (first_where test x) (option_or (first_where test y) None)) (first_where test b)
    (rw (or_nothing (first_where test y)) (or_or (first_where test x) (first_where test y) (first_where test b)))
where_before test (While t e x) b =
    where_if (test (content.While e)) t _ (option_or (first_where test x) None) (first_where test b) (rw (or_nothing (first_where test x)) refl)
where_before test (Write t x e) b = where_if (test (content.Write x e)) t _ None (first_where test b) refl
where_before test (Store t x i e) b = where_if (test (content.Store x i e)) t _ None (first_where test b) refl

pub parts_before : (s : Stmt) (b : Body) → part_count (before s b) ≡ part_count (before s done) + part_count b
parts_before (If t e x y) b = omega arith
parts_before s b = omega arith

-- where no part is refused, a block by its first part and the rest has none in either
pub deep_split : (n : ℕ) (s : Stmt) (b : Body) → first_deep n (before s b) ≡ None → (first_deep n (before s done) ≡ None) × (first_deep n b ≡ None)
deep_split n s b h = or_none _ _ (sym (deep_before n s b) ∙ h)

pub where_split : (test : Content → Bool) (s : Stmt) (b : Body) → first_where test (before s b) ≡ None → (first_where test (before s done) ≡ None) × (first_where test b ≡ None)
where_split test s b h = or_none _ _ (sym (where_before test s b) ∙ h)

-- something else at one place of a body in which no part stands too deep
pub deep_plug : (c : Around) (n : ℕ) (x y : Body) → first_deep n (plug c y) ≡ None → first_deep n (plug c x) ≡ first_deep (n - levels c) x
deep_plug here n x y h = let e : n ≡ n - 0 = omega arith in ap (λ k. first_deep k x) e
deep_plug (past s c) n x y h =
    let p = deep_split n s (plug c y) h in
    deep_before n s (plug c x) ∙ (rw p.0 (deep_plug c n x y p.1))
deep_plug (first t e c b rest) zero x y h = absurd cc
deep_plug (first t e c b rest) (suc n) x y h =
    let p = or_none (first_deep n (plug c y)) _ h in
    let q = or_none (first_deep n b) _ p.1 in
    let l : n - levels c ≡ suc n - (levels c + 1) = omega arith in
    rw (q.0, q.1) (or_nothing (first_deep n (plug c x)) ∙ deep_plug c n x y p.0 ∙ ap (λ k. first_deep k x) l)
deep_plug (second t e a c rest) zero x y h = absurd cc
deep_plug (second t e a c rest) (suc n) x y h =
    let p = or_none (first_deep n a) _ h in
    let q = or_none (first_deep n (plug c y)) _ p.1 in
    let l : n - levels c ≡ suc n - (levels c + 1) = omega arith in
    rw (p.0, q.1) (or_nothing (first_deep n (plug c x)) ∙ deep_plug c n x y q.0 ∙ ap (λ k. first_deep k x) l)
deep_plug (inside t e c rest) zero x y h = absurd cc
deep_plug (inside t e c rest) (suc n) x y h =
    let p = or_none (first_deep n (plug c y)) _ h in
    let l : n - levels c ≡ suc n - (levels c + 1) = omega arith in
    rw p.1 (or_nothing (first_deep n (plug c x)) ∙ deep_plug c n x y p.0 ∙ ap (λ k. first_deep k x) l)

-- something else at one place of a body of which no part passes a test
pub where_plug : (test : Content → Bool) (c : Around) (x y : Body) → first_where test (plug c y) ≡ None → first_where test (plug c x) ≡ first_where test x
where_plug test here x y h = refl
where_plug test (past s c) x y h =
    let p = where_split test s (plug c y) h in
    where_before test s (plug c x) ∙ (rw p.0 (where_plug test c x y p.1))
where_plug test (first t e c b rest) x y h =
    let p = none_in_branch test t e (plug c y) b rest h in
    rw (p.0, p.2, p.3) (or_nothing (first_where test (plug c x)) ∙ where_plug test c x y p.1)
where_plug test (second t e a c rest) x y h =
    let p = none_in_branch test t e a (plug c y) rest h in
    rw (p.0, p.1, p.3) (or_nothing (first_where test (plug c x)) ∙ where_plug test c x y p.2)
where_plug test (inside t e c rest) x y h =
    let p = none_in_loop test t e (plug c y) rest h in
    rw (p.0, p.2) (or_nothing (first_where test (plug c x)) ∙ where_plug test c x y p.1)

pub parts_plug : (c : Around) (x : Body) → part_count (plug c x) ≡ part_count (plug c done) + part_count x
parts_plug here x = omega arith
parts_plug (past s c) x = omega (arith, parts_before s (plug c x), parts_before s (plug c done), parts_plug c x)
parts_plug (first t e c b rest) x = omega (arith, parts_plug c x)
parts_plug (second t e a c rest) x = omega (arith, parts_plug c x)
parts_plug (inside t e c rest) x = omega (arith, parts_plug c x)
