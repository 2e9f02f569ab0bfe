-- The steps of the walk as the code takes them.
use Rattle.std.proofs.Common.{◌≡◌, ℕ, suc, ◌+◌, ◌-◌, ◌≤◌, ◌<◌, List, [], ◌∷◌, ◌++◌, length, get_or, set, take, drop, false, eqb, cond, refl, sym, ap, ◌∙◌, append_assoc, drop-cons, drop_of_length-le, arith}
use Rattle.std.proofs.lemmas.Bool.Decides.{nat_tests}
use Rattle.std.proofs.lemmas.List.{append-nil, length-drop}
use Rattle.std.proofs.Math.Seq.{take-length, set-append_seam}
use Rattle.hpr_terms.specs.declared.tag.Tag.{Tag}
use Rattle.hpr_terms.specs.declared.expr.Expr.{Expr}
use Rattle.hpr_syntax.specs.declared.tree.Block.{Block}
use Rattle.hpr_syntax.specs.declared.tree.Stmt.{Stmt}
use Rattle.hpr_syntax.specs.declared.tree.Stmt.TheVariants.{Assign, If, While, Write, Store}
use Rattle.hpr_syntax.specs.Body.{Body, done}
use Rattle.hpr_syntax.specs.BodyOf.{before, body_of}
use Rattle.hpr_syntax.specs.Parts.{tag_of}
use Rattle.hpr_syntax.proofs.RowLemmas.{drop_turn}
use Rattle.hpr_places.specs.declared.place.Placed.{Placed}
use Rattle.hpr_places.specs.declared.scan.Before.{Before}
use Rattle.hpr_places.specs.Private.Walk.{closer_len, after, content_len, skip, opened, closed, Walked, stop, then_on, placed_from, whole, if_else, walk, inside}

drop_next : (bytes : List ℕ) (i : ℕ) → i < length bytes → drop i bytes ≡ get_or bytes i 0 ∷ drop (i + 1) bytes
drop_next bytes i h =
    let next : suc i ≡ i + 1 = omega arith in
    drop-cons bytes i 0 h ∙ ap (λ k. get_or bytes i 0 ∷ drop k bytes) next

-- what is left of the bytes from one on
pub all_left : (bytes : List ℕ) (i : ℕ) → take (length bytes - i) (drop i bytes) ≡ drop i bytes
all_left bytes i = ap (λ k. take k (drop i bytes)) (sym (length-drop i bytes)) ∙ take-length (drop i bytes)

content_step : (s : Before) (bytes : List ℕ) (i k : ℕ) → i < length bytes → k ≡ closer_len s (drop i bytes)
    → content_len s (drop i bytes) ≡ cond (eqb k 0) (content_len (after s (get_or bytes i 0)) (drop (i + 1) bytes) + 1) k
unfolding content_len
content_step s bytes i k h is =
    let e = drop_next bytes i h in
    ap (content_len s) e ∙ ap (λ n. cond (eqb n 0) (content_len (after s (get_or bytes i 0)) (drop (i + 1) bytes) + 1) n) (ap (closer_len s) (sym e) ∙ sym is)

pub content_open : (s : Before) (bytes : List ℕ) (i k : ℕ) → i < length bytes → k ≡ closer_len s (drop i bytes) → k ≡ 0
    → content_len s (drop i bytes) ≡ content_len (after s (get_or bytes i 0)) (drop (i + 1) bytes) + 1
content_open s bytes i k h is zero = content_step s bytes i 0 h (sym zero ∙ is)

pub content_closed : (s : Before) (bytes : List ℕ) (i k : ℕ) → i < length bytes → k ≡ closer_len s (drop i bytes) → 0 < k → content_len s (drop i bytes) ≡ k
content_closed s bytes i k h is some =
    let e : eqb k 0 ≡ false = grind (arith, nat_tests) in
    content_step s bytes i k h is ∙ ap (λ b. cond b (content_len (after s (get_or bytes i 0)) (drop (i + 1) bytes) + 1) k) e

pub content_over : (s : Before) (bytes : List ℕ) (i : ℕ) → length bytes ≤ i → content_len s (drop i bytes) ≡ 0
unfolding content_len
content_over s bytes i h = ap (content_len s) (drop_of_length-le bytes h)

part_whole : (bytes : List ℕ) (s : Stmt) (rest : Body) (n : ℕ) → walk bytes (before s rest) n ≡ then_on (whole (tag_of s) (skip bytes n) (inside bytes s n)) (walk bytes rest)
unfolding walk inside
part_whole bytes (Assign t x e) rest n = refl
part_whole bytes (If t e a b) rest n = refl
part_whole bytes (While t e a) rest n = refl
part_whole bytes (Write t x e) rest n = refl
part_whole bytes (Store t x i e) rest n = refl

pub walk_ends : (bytes : List ℕ) (body : Body) (n : ℕ) → body ≡ done → (walk bytes body n).end ≡ n
unfolding walk
walk_ends bytes body n e = ap (λ b. (walk bytes b n).end) e

pub walk_finds : (bytes : List ℕ) (body : Body) (n : ℕ) → body ≡ done → (walk bytes body n).places ≡ []
unfolding walk
walk_finds bytes body n e = ap (λ b. (walk bytes b n).places) e

pub part_end : (bytes : List ℕ) (s : Stmt) (n : ℕ) → (walk bytes (before s done) n).end ≡ (inside bytes s n).end
unfolding walk
part_end bytes s n = ap (λ (a : Walked). a.end) (part_whole bytes s done n)

pub part_places : (bytes : List ℕ) (s : Stmt) (n : ℕ) → (walk bytes (before s done) n).places ≡ placed_from (tag_of s) (skip bytes n) (inside bytes s n).end ∷ (inside bytes s n).places
unfolding walk
part_places bytes s n = ap (λ (a : Walked). a.places) (part_whole bytes s done n) ∙ append-nil (placed_from (tag_of s) (skip bytes n) (inside bytes s n).end ∷ (inside bytes s n).places)

pub turn_end : (bytes : List ℕ) (items : List Stmt) (i : ℕ) (s : Stmt) (n : ℕ) → i < length items → s ≡ get_or items i s
    → (walk bytes (body_of (drop i items)) n).end ≡ (walk bytes (body_of (drop (i + 1) items)) (walk bytes (before s done) n).end).end
turn_end bytes items i s n h is =
    let rest = body_of (drop (i + 1) items) in
    ap (λ b. (walk bytes b n).end) (drop_turn items i s h is) ∙ ap (λ (a : Walked). a.end) (part_whole bytes s rest n) ∙ ap (λ m. (walk bytes rest m).end) (sym (part_end bytes s n))

pub turn_places : (bytes : List ℕ) (items : List Stmt) (i : ℕ) (s : Stmt) (n : ℕ) → i < length items → s ≡ get_or items i s
    → (walk bytes (body_of (drop i items)) n).places
    ≡ (walk bytes (before s done) n).places ++ (walk bytes (body_of (drop (i + 1) items)) (walk bytes (before s done) n).end).places
turn_places bytes items i s n h is =
    let rest = body_of (drop (i + 1) items) in
    let found = placed_from (tag_of s) (skip bytes n) (inside bytes s n).end ∷ (inside bytes s n).places in
    ap (λ b. (walk bytes b n).places) (drop_turn items i s h is) ∙ ap (λ (a : Walked). a.places) (part_whole bytes s rest n)
    ∙ ap (λ m. found ++ (walk bytes rest m).places) (sym (part_end bytes s n)) ∙ ap (λ ps. ps ++ (walk bytes rest (walk bytes (before s done) n).end).places) (sym (part_places bytes s n))

pub part_found : (bytes : List ℕ) (s : Stmt) (n : ℕ) (t : Tag) (first end : ℕ) (old pushed new : List Placed) (index : ℕ) (begun : Placed) → t ≡ tag_of s → first ≡ skip bytes n
    → end ≡ (inside bytes s n).end → pushed ≡ old ++ (begun ∷ []) → new ≡ pushed ++ (inside bytes s n).places → index ≡ length old
    → set new index (placed_from t first end) ≡ old ++ (walk bytes (before s done) n).places
part_found bytes s n t first end old pushed new index begun tag_is first_is end_is pushed_is new_is index_is =
    let ps = (inside bytes s n).places in
    let placed = placed_from t first end in
    let all : new ≡ old ++ (begun ∷ ps) = new_is ∙ ap (λ qs. qs ++ ps) pushed_is ∙ append_assoc old (begun ∷ []) ps in
    let same : placed ≡ placed_from (tag_of s) (skip bytes n) (inside bytes s n).end =
    ap (λ u. placed_from u first end) tag_is ∙ ap (λ k. placed_from (tag_of s) k end) first_is ∙ ap (λ k. placed_from (tag_of s) (skip bytes n) k) end_is in
    ap (λ qs. set qs index placed) all ∙ ap (λ k. set (old ++ (begun ∷ ps)) k placed) index_is ∙ set-append_seam old begun ps placed
    ∙ ap (λ q. old ++ (q ∷ ps)) same ∙ ap (λ qs. old ++ qs) (sym (part_places bytes s n))

-- ---- what stands in a part

pub if_end : (bytes : List ℕ) (s : Stmt) (t : Tag) (e : Expr) (a b : Body) (n start middle last end : ℕ) → s ≡ If t e a b → start ≡ opened bytes n → middle ≡ (walk bytes a start).end
    → last ≡ (if_else bytes (walk bytes b) middle).end → end ≡ closed bytes last → end ≡ (inside bytes s n).end
unfolding inside
if_end bytes s t e a b n start middle last end is start_is middle_is last_is end_is =
    let m = middle_is ∙ ap (λ k. (walk bytes a k).end) start_is in
    end_is ∙ ap (closed bytes) (last_is ∙ ap (λ k. (if_else bytes (walk bytes b) k).end) m) ∙ sym (ap (λ (v : Stmt). (inside bytes v n).end) is)

pub if_found : (bytes : List ℕ) (s : Stmt) (t : Tag) (e : Expr) (a b : Body) (n start middle : ℕ) (old half new : List Placed) → s ≡ If t e a b → start ≡ opened bytes n
    → middle ≡ (walk bytes a start).end → half ≡ old ++ (walk bytes a start).places → new ≡ half ++ (if_else bytes (walk bytes b) middle).places → new ≡ old ++ (inside bytes s n).places
unfolding inside
if_found bytes s t e a b n start middle old half new is start_is middle_is half_is new_is =
    let m = middle_is ∙ ap (λ k. (walk bytes a k).end) start_is in
    let ps = (walk bytes a (opened bytes n)).places in
    let qs = (if_else bytes (walk bytes b) (walk bytes a (opened bytes n)).end).places in
    new_is ∙ ap (λ k. half ++ (if_else bytes (walk bytes b) k).places) m ∙ ap (λ xs. xs ++ qs) (half_is ∙ ap (λ k. old ++ (walk bytes a k).places) start_is)
    ∙ append_assoc old ps qs ∙ sym (ap (λ (v : Stmt). old ++ (inside bytes v n).places) is)

pub while_end : (bytes : List ℕ) (s : Stmt) (t : Tag) (e : Expr) (a : Body) (n start last end : ℕ) → s ≡ While t e a → start ≡ opened bytes n → last ≡ (walk bytes a start).end
    → end ≡ closed bytes last → end ≡ (inside bytes s n).end
unfolding inside
while_end bytes s t e a n start last end is start_is last_is end_is =
    end_is ∙ ap (closed bytes) (last_is ∙ ap (λ k. (walk bytes a k).end) start_is) ∙ sym (ap (λ (v : Stmt). (inside bytes v n).end) is)

pub while_found : (bytes : List ℕ) (s : Stmt) (t : Tag) (e : Expr) (a : Body) (n start : ℕ) (old new : List Placed) → s ≡ While t e a → start ≡ opened bytes n
    → new ≡ old ++ (walk bytes a start).places → new ≡ old ++ (inside bytes s n).places
unfolding inside
while_found bytes s t e a n start old new is start_is new_is =
    new_is ∙ ap (λ k. old ++ (walk bytes a k).places) start_is ∙ sym (ap (λ (v : Stmt). old ++ (inside bytes v n).places) is)

pub no_blocks : (bytes : List ℕ) (s : Stmt) (n : ℕ) → ((t : Tag) (e : Expr) (a b : Block) → s ≡ If t e a b → ⊥) → ((t : Tag) (e : Expr) (a : Block) → s ≡ While t e a → ⊥)
    → inside bytes s n ≡ stop (opened bytes n)
unfolding inside
no_blocks bytes (If t e a b) n h k = absurd (h t e a b refl)
no_blocks bytes (While t e a) n h k = absurd (k t e a refl)
no_blocks bytes (Assign t x e) n h k = refl
no_blocks bytes (Write t x e) n h k = refl
no_blocks bytes (Store t x i e) n h k = refl
