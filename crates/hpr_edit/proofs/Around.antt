-- What stands around a place in a body.
use Rattle.std.proofs.Common.{◌≡◌, ℕ, ◌+◌, ◌-◌, ◌≤◌, Bool, true, false, Option, Some, None, ◌⊎◌, refl, ap, sym, ◌∙◌, arith, cond, inl, inr, subst}
use Rattle.hpr_terms.specs.declared.tag.Tag.{Tag}
use Rattle.hpr_syntax.specs.declared.tree.Stmt.{Stmt}
use Rattle.hpr_syntax.specs.declared.tree.Stmt.TheVariants.{If, While}
use Rattle.hpr_terms.specs.declared.expr.Expr.{Expr}
use Rattle.hpr_syntax.specs.Body.{Body, done, action, branch, loop}
use Rattle.hpr_syntax.specs.BodyOf.{before}
use Rattle.std.specs.Option.{option_or}
use Rattle.hpr_syntax.specs.Parts.{same_tag, tag_of, find_stmt}
use Rattle.hpr_syntax.specs.Rows.{Parent, stmt_by}
use Rattle.hpr_syntax.proofs.ByStructure.{tag_stmt, before_stmt}
use Rattle.hpr_edit.specs.declared.command.Place.{Place}
use Rattle.hpr_edit.specs.Places.{place_from}
use Rattle.hpr_edit.specs.InPlace.{one_if, times}
use Rattle.hpr_edit.specs.Changes.{at_part}
use Rattle.hpr_edit.specs.Tested.{left_at}

pub data Around : Type 0 where
  here : Around
  past : (s : Stmt) → (c : Around) → Around
  first : (t : Tag) → (e : Expr) → (c : Around) → (b rest : Body) → Around
  second : (t : Tag) → (e : Expr) → (a : Body) → (c : Around) → (rest : Body) → Around
  inside : (t : Tag) → (e : Expr) → (c : Around) → (rest : Body) → Around

abbrev pub plug : Around → Body → Body
plug here x = x
plug (past s c) x = before s (plug c x)
plug (first t e c b rest) x = branch t e (plug c x) b rest
plug (second t e a c rest) x = branch t e a (plug c x) rest
plug (inside t e c rest) x = loop t e (plug c x) rest

-- how many parts stand around
abbrev pub levels : Around → ℕ
levels here = 0
levels (past s c) = levels c
levels (first t e c b rest) = levels c + 1
levels (second t e a c rest) = levels c + 1
levels (inside t e c rest) = levels c + 1

-- one context in another
abbrev pub into : Around → Around → Around
into here d = d
into (past s c) d = past s (into c d)
into (first t e c b rest) d = first t e (into c d) b rest
into (second t e a c rest) d = second t e a (into c d) rest
into (inside t e c rest) d = inside t e (into c d) rest

pub plug_into : (c d : Around) (x : Body) → plug (into c d) x ≡ plug c (plug d x)
plug_into here d x = refl
plug_into (past s c) d x = ap (before s) (plug_into c d x)
plug_into (first t e c b rest) d x = ap (λ y. branch t e y b rest) (plug_into c d x)
plug_into (second t e a c rest) d x = ap (λ y. branch t e a y rest) (plug_into c d x)
plug_into (inside t e c rest) d x = ap (λ y. loop t e y rest) (plug_into c d x)

-- the place of what stands there
abbrev pub place_in : Parent → ℕ → Around → Place
place_in p i here = record { parent = p; at = i }
place_in p i (past s c) = place_in p (i + 1) c
place_in p i (first t e c b rest) = place_in (Some (t, true)) 0 c
place_in p i (second t e a c rest) = place_in (Some (t, false)) 0 c
place_in p i (inside t e c rest) = place_in (Some (t, true)) 0 c

-- tags
pub no_one : (b : Bool) → one_if b ≡ 0 → b ≡ false
no_one true h = absurd (omega (arith, h))
no_one false h = refl

-- how often a tag stands
pub times_before : (t : Tag) (s : Stmt) (x : Body) → times t (before s x) ≡ times t (before s done) + times t x
times_before t (If u e a b) y = omega arith
times_before t s y = omega arith

pub times_head : (t : Tag) (s : Stmt) (x : Body) → same_tag (tag_of s) t ≡ true → 1 ≤ times t (before s x)
times_head t (If u e a b) y h = rw h (omega arith)
times_head t s y h = rw h (omega arith)

pub times_plug : (t : Tag) (c : Around) (x : Body) → times t (plug c x) ≡ times t (plug c done) + times t x
times_plug t here x = omega arith
times_plug t (past s c) x = omega (arith, times_before t s (plug c x), times_before t s (plug c done), times_plug t c x)
times_plug t (first u e c b rest) x = omega (arith, times_plug t c x)
times_plug t (second u e a c rest) x = omega (arith, times_plug t c x)
times_plug t (inside u e c rest) x = omega (arith, times_plug t c x)

-- nothing changes where the tag doesn't stand
pub absent : (t : Tag) (f : Stmt → Body → Body) (b : Body) → times t b ≡ 0 → at_part t f b ≡ b
absent t f done h = refl
absent t f (action u d rest) h = rw (no_one (same_tag u t) (omega (arith, h))) (ap (action u d) (absent t f rest (omega (arith, h))))
absent t f (branch u e a b rest) h =
    let i : at_part t f a ≡ a = absent t f a (omega (arith, h)) in
    let j : at_part t f b ≡ b = absent t f b (omega (arith, h)) in
    let k : at_part t f rest ≡ rest = absent t f rest (omega (arith, h)) in
    rw (no_one (same_tag u t) (omega (arith, h))) cc
absent t f (loop u e b rest) h =
    let j : at_part t f b ≡ b = absent t f b (omega (arith, h)) in
    let k : at_part t f rest ≡ rest = absent t f rest (omega (arith, h)) in
    rw (no_one (same_tag u t) (omega (arith, h))) cc

pub absent_found : (t : Tag) (b : Body) → times t b ≡ 0 → find_stmt t b ≡ None
absent_found t done h = refl
absent_found t (action u d rest) h = rw (no_one (same_tag u t) (omega (arith, h))) (absent_found t rest (omega (arith, h)))
absent_found t (branch u e a b rest) h =
    let i : find_stmt t a ≡ None = absent_found t a (omega (arith, h)) in
    let j : find_stmt t b ≡ None = absent_found t b (omega (arith, h)) in
    let k : find_stmt t rest ≡ None = absent_found t rest (omega (arith, h)) in
    rw (no_one (same_tag u t) (omega (arith, h)), i, j, k) refl
absent_found t (loop u e b rest) h =
    let j : find_stmt t b ≡ None = absent_found t b (omega (arith, h)) in
    let k : find_stmt t rest ≡ None = absent_found t rest (omega (arith, h)) in
    rw (no_one (same_tag u t) (omega (arith, h)), j, k) refl

pub absent_place : (t : Tag) (p : Parent) (i : ℕ) (b : Body) → times t b ≡ 0 → place_from t p i b ≡ None
absent_place t p i done h = refl
absent_place t p i (action u d rest) h = rw (no_one (same_tag u t) (omega (arith, h))) (absent_place t p (i + 1) rest (omega (arith, h)))
absent_place t p i (branch u e a b rest) h =
    let l : place_from t (Some (u, true)) 0 a ≡ None = absent_place t (Some (u, true)) 0 a (omega (arith, h)) in
    let j : place_from t (Some (u, false)) 0 b ≡ None = absent_place t (Some (u, false)) 0 b (omega (arith, h)) in
    let k : place_from t p (i + 1) rest ≡ None = absent_place t p (i + 1) rest (omega (arith, h)) in
    rw (no_one (same_tag u t) (omega (arith, h)), l, j, k) refl
absent_place t p i (loop u e b rest) h =
    let j : place_from t (Some (u, true)) 0 b ≡ None = absent_place t (Some (u, true)) 0 b (omega (arith, h)) in
    let k : place_from t p (i + 1) rest ≡ None = absent_place t p (i + 1) rest (omega (arith, h)) in
    rw (no_one (same_tag u t) (omega (arith, h)), j, k) refl

-- past a statement in which the tag doesn't stand
pub at_before : (t : Tag) (f : Stmt → Body → Body) (s : Stmt) (x : Body) → times t (before s done) ≡ 0 → at_part t f (before s x) ≡ before s (at_part t f x)
at_before t f (If u e a b) y h = rw (no_one (same_tag u t) (omega (arith, h)), absent t f a (omega (arith, h)), absent t f b (omega (arith, h))) refl
at_before t f (While u e b) y h = rw (no_one (same_tag u t) (omega (arith, h)), absent t f b (omega (arith, h))) refl
at_before t f s y h = rw (no_one (same_tag (tag_of s) t) (omega (arith, h))) refl

pub find_before : (t : Tag) (s : Stmt) (x : Body) → times t (before s done) ≡ 0 → find_stmt t (before s x) ≡ find_stmt t x
find_before t (If u e a b) y h = rw (no_one (same_tag u t) (omega (arith, h)), absent_found t a (omega (arith, h)), absent_found t b (omega (arith, h))) refl
find_before t (While u e b) y h = rw (no_one (same_tag u t) (omega (arith, h)), absent_found t b (omega (arith, h))) refl
find_before t s y h = rw (no_one (same_tag (tag_of s) t) (omega (arith, h))) refl

pub place_before : (t : Tag) (p : Parent) (i : ℕ) (s : Stmt) (x : Body) → times t (before s done) ≡ 0 → place_from t p i (before s x) ≡ place_from t p (i + 1) x
place_before t p i (If u e a b) y h = rw (no_one (same_tag u t) (omega (arith, h)), absent_place t (Some (u, true)) 0 a (omega (arith, h)), absent_place t (Some (u, false)) 0 b (omega (arith, h))) refl
place_before t p i (While u e b) y h = rw (no_one (same_tag u t) (omega (arith, h)), absent_place t (Some (u, true)) 0 b (omega (arith, h))) refl
place_before t p i s y h = rw (no_one (same_tag (tag_of s) t) (omega (arith, h))) refl

-- at the part itself
pub at_head : (t : Tag) (f : Stmt → Body → Body) (s : Stmt) (x : Body) → same_tag (tag_of s) t ≡ true → at_part t f (before s x) ≡ f s x
at_head t f (If u e a b) y h = rw h refl
at_head t f s y h = rw h refl

pub find_head : (t : Tag) (s : Stmt) (x : Body) → same_tag (tag_of s) t ≡ true → find_stmt t (before s x) ≡ Some s
find_head t (If u e a b) y h = rw h refl
find_head t s y h = rw h refl

place_head : (t : Tag) (p : Parent) (i : ℕ) (s : Stmt) (x : Body) → same_tag (tag_of s) t ≡ true → place_from t p i (before s x) ≡ Some (record { parent = p; at = i })
place_head t p i (If u e a b) y h = rw h refl
place_head t p i s y h = rw h refl

-- at the part, wherever it stands
pub at_plug : (t : Tag) (f : Stmt → Body → Body) (c : Around) (s : Stmt) (x : Body) → times t (plug c done) ≡ 0 → same_tag (tag_of s) t ≡ true → at_part t f (plug c (before s x)) ≡ plug c (f s x)
at_plug t f here s x h is = at_head t f s x is
at_plug t f (past r c) s x h is =
    at_before t f r (plug c (before s x)) (omega (arith, h, times_before t r (plug c done))) ∙ ap (before r) (at_plug t f c s x (omega (arith, h, times_before t r (plug c done))) is)
at_plug t f (first u e c b rest) s x h is =
    rw (no_one (same_tag u t) (omega (arith, h)), absent t f b (omega (arith, h)), absent t f rest (omega (arith, h)))
    (ap (λ y. branch u e y b rest) (at_plug t f c s x (omega (arith, h)) is))
at_plug t f (second u e a c rest) s x h is =
    rw (no_one (same_tag u t) (omega (arith, h)), absent t f a (omega (arith, h)), absent t f rest (omega (arith, h)))
    (ap (λ y. branch u e a y rest) (at_plug t f c s x (omega (arith, h)) is))
at_plug t f (inside u e c rest) s x h is =
    rw (no_one (same_tag u t) (omega (arith, h)), absent t f rest (omega (arith, h)))
    (ap (λ y. loop u e y rest) (at_plug t f c s x (omega (arith, h)) is))

pub find_plug : (t : Tag) (c : Around) (s : Stmt) (x : Body) → times t (plug c done) ≡ 0 → same_tag (tag_of s) t ≡ true → find_stmt t (plug c (before s x)) ≡ Some s
find_plug t here s x h is = find_head t s x is
find_plug t (past r c) s x h is =
    find_before t r (plug c (before s x)) (omega (arith, h, times_before t r (plug c done))) ∙ find_plug t c s x (omega (arith, h, times_before t r (plug c done))) is
find_plug t (first u e c b rest) s x h is =
    rw (no_one (same_tag u t) (omega (arith, h)), find_plug t c s x (omega (arith, h)) is) refl
find_plug t (second u e a c rest) s x h is =
    rw (no_one (same_tag u t) (omega (arith, h)), absent_found t a (omega (arith, h)), find_plug t c s x (omega (arith, h)) is) refl
find_plug t (inside u e c rest) s x h is =
    rw (no_one (same_tag u t) (omega (arith, h)), find_plug t c s x (omega (arith, h)) is) refl

pub place_plug : (t : Tag) (p : Parent) (i : ℕ) (c : Around) (s : Stmt) (x : Body) → times t (plug c done) ≡ 0 → same_tag (tag_of s) t ≡ true → place_from t p i (plug c (before s x)) ≡ Some (place_in p i c)
place_plug t p i here s x h is = place_head t p i s x is
place_plug t p i (past r c) s x h is =
    place_before t p i r (plug c (before s x)) (omega (arith, h, times_before t r (plug c done))) ∙ place_plug t p (i + 1) c s x (omega (arith, h, times_before t r (plug c done))) is
place_plug t p i (first u e c b rest) s x h is =
    rw (no_one (same_tag u t) (omega (arith, h)), place_plug t (Some (u, true)) 0 c s x (omega (arith, h)) is) refl
place_plug t p i (second u e a c rest) s x h is =
    rw (no_one (same_tag u t) (omega (arith, h)), absent_place t (Some (u, true)) 0 a (omega (arith, h)), place_plug t (Some (u, false)) 0 c s x (omega (arith, h)) is) refl
place_plug t p i (inside u e c rest) s x h is =
    rw (no_one (same_tag u t) (omega (arith, h)), place_plug t (Some (u, true)) 0 c s x (omega (arith, h)) is) refl

-- how many levels are left where it stands
absent_left : (t : Tag) (n : ℕ) (b : Body) → times t b ≡ 0 → left_at t n b ≡ None
absent_left t n done h = refl
absent_left t n (action u d rest) h = rw (no_one (same_tag u t) (omega (arith, h))) (absent_left t n rest (omega (arith, h)))
absent_left t n (branch u e a b rest) h =
    let i : left_at t (n - 1) a ≡ None = absent_left t (n - 1) a (omega (arith, h)) in
    let j : left_at t (n - 1) b ≡ None = absent_left t (n - 1) b (omega (arith, h)) in
    let k : left_at t n rest ≡ None = absent_left t n rest (omega (arith, h)) in
    rw (no_one (same_tag u t) (omega (arith, h)), i, j, k) refl
absent_left t n (loop u e b rest) h =
    let j : left_at t (n - 1) b ≡ None = absent_left t (n - 1) b (omega (arith, h)) in
    let k : left_at t n rest ≡ None = absent_left t n rest (omega (arith, h)) in
    rw (no_one (same_tag u t) (omega (arith, h)), j, k) refl

left_before : (t : Tag) (n : ℕ) (s : Stmt) (x : Body) → times t (before s done) ≡ 0 → left_at t n (before s x) ≡ left_at t n x
left_before t n (If u e a b) y h =
    let i : left_at t (n - 1) a ≡ None = absent_left t (n - 1) a (omega (arith, h)) in
    let j : left_at t (n - 1) b ≡ None = absent_left t (n - 1) b (omega (arith, h)) in
    rw (no_one (same_tag u t) (omega (arith, h)), i, j) refl
left_before t n (While u e b) y h =
    let j : left_at t (n - 1) b ≡ None = absent_left t (n - 1) b (omega (arith, h)) in
    rw (no_one (same_tag u t) (omega (arith, h)), j) refl
left_before t n s y h = rw (no_one (same_tag (tag_of s) t) (omega (arith, h))) refl

left_head : (t : Tag) (n : ℕ) (s : Stmt) (x : Body) → same_tag (tag_of s) t ≡ true → left_at t n (before s x) ≡ Some n
left_head t n (If u e a b) y h = rw h refl
left_head t n s y h = rw h refl

deeper : (n k : ℕ) → n - 1 - k ≡ n - (k + 1)
deeper n k = omega arith

pub left_plug : (t : Tag) (n : ℕ) (c : Around) (s : Stmt) (x : Body) → times t (plug c done) ≡ 0 → same_tag (tag_of s) t ≡ true → left_at t n (plug c (before s x)) ≡ Some (n - levels c)
left_plug t n here s x h is = let e : n ≡ n - 0 = omega arith in left_head t n s x is ∙ ap Some e
left_plug t n (past r c) s x h is =
    left_before t n r (plug c (before s x)) (omega (arith, h, times_before t r (plug c done))) ∙ left_plug t n c s x (omega (arith, h, times_before t r (plug c done))) is
left_plug t n (first u e c b rest) s x h is =
    rw (no_one (same_tag u t) (omega (arith, h)), left_plug t (n - 1) c s x (omega (arith, h)) is) (ap Some (deeper n (levels c)))
left_plug t n (second u e a c rest) s x h is =
    rw (no_one (same_tag u t) (omega (arith, h)), absent_left t (n - 1) a (omega (arith, h)), left_plug t (n - 1) c s x (omega (arith, h)) is)
    (ap Some (deeper n (levels c)))
left_plug t n (inside u e c rest) s x h is =
    rw (no_one (same_tag u t) (omega (arith, h)), left_plug t (n - 1) c s x (omega (arith, h)) is) (ap Some (deeper n (levels c)))

pub levels_into : (c d : Around) → levels (into c d) ≡ levels c + levels d
levels_into here d = omega arith
levels_into (past s c) d = levels_into c d
levels_into (first t e c b rest) d = omega (arith, levels_into c d)
levels_into (second t e a c rest) d = omega (arith, levels_into c d)
levels_into (inside t e c rest) d = omega (arith, levels_into c d)

-- a found part has something around it
pub record FoundIn (t : Tag) (body : Body) (s : Stmt) : Type 0 where
  pub around : Around
  pub rest : Body
  pub is : body ≡ plug around (before s rest)
  pub tag : same_tag (tag_of s) t ≡ true

if_some : (b : Bool) (x s : Stmt) (o : Option Stmt) → cond b (Some x) o ≡ Some s → ((b ≡ true) × (x ≡ s)) ⊎ (o ≡ Some s)
if_some true x s o h = inl (refl, grind (arith, h))
if_some false x s o h = inr h

or_some : (o r : Option Stmt) (s : Stmt) → option_or o r ≡ Some s → (o ≡ Some s) ⊎ (r ≡ Some s)
or_some None r s h = inr h
or_some (Some x) r s h = inl h

wider : (t : Tag) (a : Body) (s : Stmt) (d : Around) (body : Body) → ((x : Body) → x ≡ a → body ≡ plug d x) → FoundIn t a s → FoundIn t body s
wider t a s d body w f = record {
  around = into d f.around;
  rest = f.rest;
  is = w (plug f.around (before s f.rest)) (sym f.is) ∙ sym (plug_into d f.around (before s f.rest));
  tag = f.tag;
}

pub found_in : (t : Tag) (body : Body) (s : Stmt) → find_stmt t body ≡ Some s → FoundIn t body s
found_in t done s h = absurd (grind (arith, h))
found_in t (action u d rest) s h = elim (if_some (same_tag u t) (stmt_by u d) s (find_stmt t rest) h) [
  | inl p ↦ record {
    around = here;
    rest = rest;
    is = sym (before_stmt u d rest) ∙ ap (λ y. before y rest) p.1;
    tag = subst (λ y. same_tag (tag_of y) t ≡ true) p.1 (ap (λ v. same_tag v t) (tag_stmt u d) ∙ p.0);
  }
  | inr q ↦ wider t rest s (past (stmt_by u d) here) (action u d rest) (λ y i. ap (action u d) (sym i) ∙ sym (before_stmt u d y)) (found_in t rest s q)
]
found_in t (branch u e a b rest) s h = elim (if_some (same_tag u t) (If u e a b) s (option_or (find_stmt t a) (option_or (find_stmt t b) (find_stmt t rest))) h) [
  | inl p ↦ record { around = here; rest = rest; is = ap (λ y. before y rest) p.1; tag = subst (λ y. same_tag (tag_of y) t ≡ true) p.1 p.0 }
  | inr q ↦ elim (or_some (find_stmt t a) _ s q) [
    | inl i ↦ wider t a s (first u e here b rest) (branch u e a b rest) (λ y j. ap (λ z. branch u e z b rest) (sym j)) (found_in t a s i)
    | inr r ↦ elim (or_some (find_stmt t b) _ s r) [
      | inl i ↦ wider t b s (second u e a here rest) (branch u e a b rest) (λ y j. ap (λ z. branch u e a z rest) (sym j)) (found_in t b s i)
      | inr i ↦ wider t rest s (past (If u e a b) here) (branch u e a b rest) (λ y j. ap (branch u e a b) (sym j)) (found_in t rest s i)
    ]
  ]
]
found_in t (loop u e b rest) s h = elim (if_some (same_tag u t) (While u e b) s (option_or (find_stmt t b) (find_stmt t rest)) h) [
  | inl p ↦ record { around = here; rest = rest; is = ap (λ y. before y rest) p.1; tag = subst (λ y. same_tag (tag_of y) t ≡ true) p.1 p.0 }
  | inr q ↦ elim (or_some (find_stmt t b) _ s q) [
    | inl i ↦ wider t b s (inside u e here rest) (loop u e b rest) (λ y j. ap (λ z. loop u e z rest) (sym j)) (found_in t b s i)
    | inr i ↦ wider t rest s (past (While u e b) here) (loop u e b rest) (λ y j. ap (loop u e b) (sym j)) (found_in t rest s i)
  ]
]
