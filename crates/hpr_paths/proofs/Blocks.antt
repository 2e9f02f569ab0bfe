-- The points of a block, statement by statement.
use Rattle.std.proofs.Common.{◌≡◌, ℕ, ◌+◌, ◌<◌, ◌≤◌, Bool, true, false, cond, List, [], ◌∷◌, ◌++◌, length, get_or, drop, length-drop, inl, inr, refl, sym, ap, ◌∙◌, arith, append_assoc}
use Rattle.std.proofs.lemmas.List.{append-nil, drop_all}
use Rattle.std.proofs.lemmas.Bool.{cases_lt}
use Rattle.hpr_terms.specs.declared.tag.Tag.{Tag}
use Rattle.hpr_terms.specs.declared.expr.Expr.{Expr}
use Rattle.hpr_syntax.specs.Parts.{tag_of}
use Rattle.hpr_syntax.specs.Rows.{content_of}
use Rattle.hpr_syntax.specs.declared.tree.Stmt.{Stmt}
use Rattle.hpr_syntax.specs.declared.tree.Stmt.TheVariants.{If, While}
use Rattle.hpr_syntax.specs.declared.rows.Content.TheVariants as content
use Rattle.hpr_syntax.specs.Body.{Body, done, part_count}
use Rattle.hpr_syntax.specs.BodyOf.{before, body_of}
use Rattle.hpr_syntax.proofs.RowLemmas.{drop_turn}
use Rattle.hpr_paths.specs.declared.spot.Step.{Step}
use Rattle.hpr_paths.specs.Spots as role
use Rattle.hpr_paths.specs.Spots.{Spot, part}
use Rattle.hpr_paths.specs.Successors.{first_step, step_to, spot_of, spots_of}

abbrev Rows : Type 0
Rows = List Spot

pub first_step_some : (xs : List Stmt) (n : ℕ) (f : Step) → 0 < length xs → first_step (body_of xs) n f ≡ step_to n
first_step_some [] n f h = absurd (omega arith)
first_step_some (If t e a b ∷ xs) n f h = refl
first_step_some (s ∷ xs) n f h = refl

regroup : (x y z : Rows) → (x ++ (y ++ [])) ++ z ≡ x ++ (y ++ z)
regroup x y z = append_assoc x (y ++ []) z ∙ ap (λ (r : Rows). x ++ (r ++ z)) (append-nil y)

pub spots_cons : (s : Stmt) (rest : Body) (n m : ℕ) (f : Step) (w : List ℕ) → m ≡ n + part_count (before s done)
    → spots_of (before s rest) n f w ≡ spots_of (before s done) n (first_step rest m f) w ++ spots_of rest m f w
spots_cons (If t e a b) rest n m f w is =
    let next : m ≡ n + 1 + part_count a + part_count b = omega arith in
    rw next (ap (λ (r : Rows). spot_of (first_step a (n + 1) (first_step rest (n + 1 + part_count a + part_count b) f) ∷ first_step b (n + 1 + part_count a) (first_step rest (n + 1 + part_count a + part_count b) f) ∷ []) w (part t (content.If e)) ∷ r)
    (sym (regroup (spots_of a (n + 1) (first_step rest (n + 1 + part_count a + part_count b) f) w) (spots_of b (n + 1 + part_count a) (first_step rest (n + 1 + part_count a + part_count b) f) w) (spots_of rest (n + 1 + part_count a + part_count b) f w))))
spots_cons (While t e b) rest n m f w is =
    let next : m ≡ n + 1 + part_count b = omega arith in
    rw next (ap (λ (r : Rows). spot_of (first_step b (n + 1) (record { to = n; back = true }) ∷ first_step rest (n + 1 + part_count b) f ∷ []) (w ++ n ∷ []) (part t (content.While e)) ∷ r)
    (ap (λ (r : Rows). r ++ spots_of rest (n + 1 + part_count b) f w) (sym (append-nil (spots_of b (n + 1) (record { to = n; back = true }) (w ++ n ∷ []))))))
spots_cons s rest n m f w is = rw is refl

pub count_cons : (s : Stmt) (rest : Body) → part_count (before s rest) ≡ part_count (before s done) + part_count rest
count_cons (If t e a b) rest = omega arith
count_cons s rest = omega arith

if_not : (more : Bool) (s f : Step) → (more ≡ true → ⊥) → cond more s f ≡ f
if_not true s f h = absurd (h refl)
if_not false s f h = refl

if_so : (more : Bool) (s f : Step) → (more ≡ false → ⊥) → cond more s f ≡ s
if_so true s f h = refl
if_so false s f h = absurd (h refl)

-- what follows a statement is where the rest begins
pub after_is : (xs : List Stmt) (i n : ℕ) (f : Step) (more : Bool) → (more ≡ true → i < length xs) → (more ≡ false → length xs ≤ i) → cond more (step_to n) f ≡ first_step (body_of (drop i xs)) n f
after_is xs i n f more p q = elim (cases_lt i (length xs)) [
  | inl l ↦ if_so more (step_to n) f (λ e. let h : length xs ≤ i = q e in omega arith)
      ∙ sym (first_step_some (drop i xs) n f (omega (arith, length-drop i xs)))
  | inr past ↦ if_not more (step_to n) f (λ e. let h : i < length xs = p e in omega arith)
      ∙ ap (λ (ys : List Stmt). first_step (body_of ys) n f) (sym (drop_all i xs past))
]

pub count_step : (xs : List Stmt) (i : ℕ) (s : Stmt) → i < length xs → s ≡ get_or xs i s → part_count (body_of (drop i xs)) ≡ part_count (before s done) + part_count (body_of (drop (i + 1) xs))
count_step xs i s l is = ap part_count (drop_turn xs i s l is) ∙ count_cons s (body_of (drop (i + 1) xs))

-- the points after one more statement
pub spots_step : (rows rows' full : Rows) (xs : List Stmt) (i n n' : ℕ) (s : Stmt) (f after : Step) (w : List ℕ) → i < length xs → s ≡ get_or xs i s → rows ++ spots_of (body_of (drop i xs)) n f w ≡ full → rows' ≡ rows ++ spots_of (before s done) n after w → after ≡ first_step (body_of (drop (i + 1) xs)) n' f → n' ≡ n + part_count (before s done) → rows' ++ spots_of (body_of (drop (i + 1) xs)) n' f w ≡ full
spots_step rows rows' full xs i n n' s f after w l is so_far grown after_is n'_is =
    let rest : Body = body_of (drop (i + 1) xs) in
    ap (λ (r : Rows). r ++ spots_of rest n' f w) (grown ∙ ap (λ (a : Step). rows ++ spots_of (before s done) n a w) after_is)
    ∙ append_assoc rows (spots_of (before s done) n (first_step rest n' f) w) (spots_of rest n' f w)
    ∙ ap (λ (r : Rows). rows ++ r) (sym (ap (λ (b : Body). spots_of b n f w) (drop_turn xs i s l is) ∙ spots_cons s rest n n' f w n'_is))
    ∙ so_far

pub spots_done : (rows full : Rows) (xs : List Stmt) (i n : ℕ) (f : Step) (w : List ℕ) → length xs ≤ i → rows ++ spots_of (body_of (drop i xs)) n f w ≡ full → rows ≡ full
spots_done rows full xs i n f w past h = sym (ap (λ (ys : List Stmt). rows ++ spots_of (body_of ys) n f w) (drop_all i xs past) ∙ append-nil rows) ∙ h

-- neither a conditional nor a loop
abbrev pub IsOther : Stmt → Type 0
IsOther s = ((t : Tag) (e : Expr) (a b : Body) → ¬ (s ≡ If t e a b)) × ((t : Tag) (e : Expr) (b : Body) → ¬ (s ≡ While t e b))

-- how many parts a statement and those in it are
pub count_while : (s : Stmt) (t : Tag) (e : Expr) (b : Body) → s ≡ While t e b → part_count (before s done) ≡ part_count b + 1
count_while s t e b is = ap (λ (r : Stmt). part_count (before r done)) is ∙ omega arith

pub count_if : (s : Stmt) (t : Tag) (e : Expr) (a b : Body) → s ≡ If t e a b → part_count (before s done) ≡ part_count a + part_count b + 1
count_if s t e a b is = ap (λ (r : Stmt). part_count (before r done)) is ∙ omega arith

pub count_simple : (s : Stmt) → IsOther s → part_count (before s done) ≡ 1
count_simple (If t e a b) other = absurd (other.0 t e a b refl)
count_simple (While t e b) other = absurd (other.1 t e b refl)
count_simple s other = omega arith

abbrev Role : Stmt → role.Role
Role s = part (tag_of s) (content_of s)

-- one statement with the parts in it: one without blocks, a loop, a conditional
pub spots_simple : (s : Stmt) → IsOther s → (old one : Rows) (n : ℕ) (after : Step) (w : List ℕ) → one ≡ old ++ spot_of (after ∷ []) w (Role s) ∷ [] → one ≡ old ++ spots_of (before s done) n after w
spots_simple (If t e a b) other old one n after w first = absurd (other.0 t e a b refl)
spots_simple (While t e b) other old one n after w first = absurd (other.1 t e b refl)
spots_simple s other old one n after w first = first

pub spots_while : (s : Stmt) (t : Tag) (e : Expr) (b : Body) → s ≡ While t e b → (old one new : Rows) (n m : ℕ) (after into : Step) (w outer inner : List ℕ)
    → one ≡ old ++ spot_of (into ∷ after ∷ []) outer (Role s) ∷ [] → new ≡ one ++ spots_of b m (record { to = n; back = true }) inner
    → into ≡ first_step b (n + 1) (record { to = n; back = true }) → outer ≡ w ++ n ∷ [] → inner ≡ w ++ n ∷ [] → m ≡ n + 1 → new ≡ old ++ spots_of (before s done) n after w
spots_while s t e b is old one new n m after into w outer inner first more into_is outer_is inner_is next =
    let again : Step = record { to = n; back = true } in
    let inside : List ℕ = w ++ n ∷ [] in
    let body : Rows = spots_of b (n + 1) again inside in
    let start : Step = first_step b (n + 1) again in
    more
    ∙ ap (λ (r : Rows). r ++ spots_of b m again inner) first
    ∙ append_assoc old (spot_of (into ∷ after ∷ []) outer (Role s) ∷ []) (spots_of b m again inner)
    ∙ ap (λ (k : ℕ). old ++ spot_of (into ∷ after ∷ []) outer (Role s) ∷ spots_of b k again inner) next
    ∙ ap (λ (v : List ℕ). old ++ spot_of (into ∷ after ∷ []) outer (Role s) ∷ spots_of b (n + 1) again v) inner_is
    ∙ ap (λ (z : Step). old ++ spot_of (z ∷ after ∷ []) outer (Role s) ∷ body) into_is
    ∙ ap (λ (v : List ℕ). old ++ spot_of (start ∷ after ∷ []) v (Role s) ∷ body) outer_is
    ∙ ap (λ (r : Stmt). old ++ spot_of (start ∷ after ∷ []) inside (Role r) ∷ body) is
    ∙ ap (λ (r : Rows). old ++ spot_of (start ∷ after ∷ []) inside (part t (content.While e)) ∷ r) (sym (append-nil body))
    ∙ sym (ap (λ (r : Stmt). old ++ spots_of (before r done) n after w) is)

pub spots_if : (s : Stmt) (t : Tag) (e : Expr) (a b : Body) → s ≡ If t e a b → (old one two new : Rows) (n m k q : ℕ) (after into_a into_b : Step) (w : List ℕ)
    → one ≡ old ++ spot_of (into_a ∷ into_b ∷ []) w (Role s) ∷ [] → two ≡ one ++ spots_of a m after w → new ≡ two ++ spots_of b k after w
    → into_a ≡ first_step a (n + 1) after → into_b ≡ first_step b q after → m ≡ n + 1 → k ≡ n + 1 + part_count a → q ≡ n + 1 + part_count a → new ≡ old ++ spots_of (before s done) n after w
spots_if s t e a b is old one two new n m k q after into_a into_b w first second third a_is b_is m_is k_is q_is =
    let at : ℕ = n + 1 + part_count a in
    let left : Rows = spots_of a (n + 1) after w in
    let right : Rows = spots_of b at after w in
    let head : Rows = old ++ spot_of (into_a ∷ into_b ∷ []) w (Role s) ∷ [] in
    third
    ∙ ap (λ (r : Rows). r ++ spots_of b k after w) (second ∙ ap (λ (r : Rows). r ++ spots_of a m after w) first)
    ∙ ap (λ (i : ℕ). (head ++ spots_of a i after w) ++ spots_of b k after w) m_is
    ∙ ap (λ (i : ℕ). (head ++ left) ++ spots_of b i after w) k_is
    ∙ append_assoc head left right
    ∙ append_assoc old (spot_of (into_a ∷ into_b ∷ []) w (Role s) ∷ []) (left ++ right)
    ∙ ap (λ (z : Step). old ++ spot_of (z ∷ into_b ∷ []) w (Role s) ∷ (left ++ right)) a_is
    ∙ ap (λ (z : Step). old ++ spot_of (first_step a (n + 1) after ∷ z ∷ []) w (Role s) ∷ (left ++ right)) (b_is ∙ ap (λ (i : ℕ). first_step b i after) q_is)
    ∙ ap (λ (r : Stmt). old ++ spot_of (first_step a (n + 1) after ∷ first_step b at after ∷ []) w (Role r) ∷ (left ++ right)) is
    ∙ ap (λ (r : Rows). old ++ spot_of (first_step a (n + 1) after ∷ first_step b at after ∷ []) w (part t (content.If e)) ∷ (left ++ r)) (sym (append-nil right))
    ∙ sym (ap (λ (r : Stmt). old ++ spots_of (before r done) n after w) is)
