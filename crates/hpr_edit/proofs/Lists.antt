-- Blocks as lists of parts, and what the code does to the lists.
use Rattle.std.proofs.Common.{◌≡◌, ℕ, zero, suc, ◌+◌, ◌≤◌, ◌<◌, Bool, true, false, List, [], ◌∷◌, ◌++◌, take, drop, length, get_or, drop-cons, refl, ap, sym, ◌∙◌, arith, set, Option, Some, None, is_some, Bor, leb, min, ◌⊎◌, inl, inr}
use Rattle.std.specs.Option.{option_copied}
use Rattle.std.specs.List.{insert, remove}
use Rattle.std.proofs.lemmas.Bool.{leb-true, leb-false}
use Rattle.std.proofs.lemmas.List.{length-take-le, append_assoc, set-get_or, get_or_default}
use Rattle.std.proofs.lemmas.List.Edits.{length-remove}
use Rattle.hpr_terms.specs.declared.tag.Tag.{Tag}
use Rattle.hpr_terms.specs.declared.expr.Expr.{Expr}
use Rattle.hpr_syntax.specs.declared.tree.Stmt.{Stmt}
use Rattle.hpr_syntax.specs.declared.tree.Stmt.TheVariants.{If, While}
use Rattle.hpr_syntax.specs.declared.rows.Content.{Content}
use Rattle.hpr_syntax.specs.Body.{Body, done, action, branch, loop}
use Rattle.hpr_syntax.specs.BodyOf.{before, body_of}
use Rattle.hpr_syntax.specs.Parts.{same_tag, tag_of}
use Rattle.hpr_edit.specs.Places.{width, joined}
use Rattle.hpr_syntax.specs.Rows.{made}
use Rattle.hpr_edit.specs.Changes.{at_part, from, first_block, second_block, saying, firsts, later, unwrapped, rewrapped}
use Rattle.hpr_edit.specs.InPlace.{times, one_if, on_first, in_part, with_content}
use Rattle.hpr_edit.proofs.Around.{absent, times_before, at_before, at_head}
use Rattle.hpr_edit.proofs.Placed.{from_before}

-- these parts, and then a block
abbrev pub onto : List Stmt → Body → Body
onto [] b = b
onto (s ∷ ss) b = before s (onto ss b)

pub body_of_append : (p q : List Stmt) → body_of (p ++ q) ≡ onto p (body_of q)
body_of_append [] q = refl
body_of_append (s ∷ p) q = ap (before s) (body_of_append p q)

pub joined_before : (s : Stmt) (b rest : Body) → joined (before s b) rest ≡ before s (joined b rest)
joined_before (If t e x y) b rest = refl
joined_before s b rest = refl

pub joined_onto : (p : List Stmt) (b : Body) → joined (body_of p) b ≡ onto p b
joined_onto [] b = refl
joined_onto (s ∷ p) b = joined_before s (body_of p) b ∙ ap (before s) (joined_onto p b)

pub joined_append : (p q : List Stmt) → body_of (p ++ q) ≡ joined (body_of p) (body_of q)
joined_append p q = body_of_append p q ∙ sym (joined_onto p (body_of q))

pub joined_twice : (a b c : Body) → joined (joined a b) c ≡ joined a (joined b c)
joined_twice done b c = refl
joined_twice (action t d rest) b c = ap (action t d) (joined_twice rest b c)
joined_twice (branch t e x y rest) b c = ap (branch t e x y) (joined_twice rest b c)
joined_twice (loop t e x rest) b c = ap (loop t e x) (joined_twice rest b c)

pub joined_done : (a : Body) → joined a done ≡ a
joined_done done = refl
joined_done (action t d rest) = ap (action t d) (joined_done rest)
joined_done (branch t e x y rest) = ap (branch t e x y) (joined_done rest)
joined_done (loop t e x rest) = ap (loop t e x) (joined_done rest)

pub width_body : (xs : List Stmt) → width (body_of xs) ≡ length xs
width_body [] = refl
width_body (If t e a b ∷ xs) = omega (arith, width_body xs)
width_body (s ∷ xs) = omega (arith, width_body xs)

-- a change from a place on
pub from_le : (g : Body → Body) (n : ℕ) (xs : List Stmt) → n ≤ length xs → from n g (body_of xs) ≡ onto (take n xs) (g (body_of (drop n xs)))
from_le g zero xs h = refl
from_le g (suc n) [] h = absurd (omega (arith, h))
from_le g (suc n) (s ∷ xs) h = from_before n g s (body_of xs) ∙ ap (before s) (from_le g n xs (omega (arith, h)))

pub from_past : (n : ℕ) (g : Body → Body) (xs : List Stmt) → length xs < n → from n g (body_of xs) ≡ body_of xs
from_past zero g xs h = absurd (omega (arith, h))
from_past (suc n) g [] h = refl
from_past (suc n) g (s ∷ xs) h = from_before n g s (body_of xs) ∙ ap (before s) (from_past n g xs (omega (arith, h)))

from_onto : (g : Body → Body) (p : List Stmt) (b : Body) (n : ℕ) → length p ≡ n → from n g (onto p b) ≡ onto p (g b)
from_onto g [] b zero h = refl
from_onto g [] b (suc n) h = absurd (omega (arith, h))
from_onto g (s ∷ p) b zero h = absurd (omega (arith, h))
from_onto g (s ∷ p) b (suc n) h = from_before n g s (onto p b) ∙ ap (before s) (from_onto g p b n (omega (arith, h)))

-- a change of the part at a place
on_first_before : (f : Stmt → Body → Body) (s : Stmt) (b : Body) → on_first f (before s b) ≡ f s b
on_first_before f (If t e x y) b = refl
on_first_before f s b = refl

pub from_at : (f : Stmt → Body → Body) (n : ℕ) (xs : List Stmt) (d : Stmt) → n < length xs → from n (on_first f) (body_of xs) ≡ onto (take n xs) (f (get_or xs n d) (body_of (drop (suc n) xs)))
from_at f n [] d h = absurd (omega (arith, h))
from_at f zero (s ∷ xs) d h = on_first_before f s (body_of xs)
from_at f (suc n) (s ∷ xs) d h = from_before n (on_first f) s (body_of xs) ∙ ap (before s) (from_at f n xs d (omega (arith, h)))

-- a part put in, taken out, or changed in its place
pub inserted : (n : ℕ) (xs : List Stmt) (x : Stmt) → n ≤ length xs → body_of (insert xs n x) ≡ from n (before x) (body_of xs)
inserted n xs x h = body_of_append (take n xs) (x ∷ drop n xs) ∙ sym (from_le (before x) n xs h)

pub removed : (n : ℕ) (xs : List Stmt) → body_of (remove xs n) ≡ onto (take n xs) (body_of (drop (suc n) xs))
removed n xs = body_of_append (take n xs) (drop (suc n) xs)

pub replaced : (n : ℕ) (xs : List Stmt) (y : Stmt) → n < length xs → body_of (set xs n y) ≡ onto (take n xs) (before y (body_of (drop (suc n) xs)))
replaced n [] y h = absurd (omega (arith, h))
replaced zero (s ∷ xs) y h = refl
replaced (suc n) (s ∷ xs) y h = ap (before s) (replaced n xs y (omega (arith, h)))

pub taken : (n : ℕ) (xs : List Stmt) (d : Stmt) → n < length xs → body_of (remove xs n) ≡ from n (on_first (λ s r. r)) (body_of xs)
taken n xs d h = removed n xs ∙ sym (from_at (λ s r. r) n xs d h)

-- taken out, changed and put back
pub back_at : (f : Stmt → Body → Body) (n : ℕ) (xs : List Stmt) (y d : Stmt) → n < length xs → ((r : Body) → before y r ≡ f (get_or xs n d) r) → body_of (insert (remove xs n) n y) ≡ from n (on_first f) (body_of xs)
back_at f n xs y d h e =
    inserted n (remove xs n) y (omega (arith, h, length-remove xs n h))
    ∙ ap (from n (before y)) (removed n xs)
    ∙ from_onto (before y) (take n xs) _ n (length-take-le n xs (omega (arith, h)))
    ∙ ap (onto (take n xs)) (e (body_of (drop (suc n) xs)))
    ∙ sym (from_at f n xs d h)

-- changed in its place
pub set_at_place : (f : Stmt → Body → Body) (n : ℕ) (xs : List Stmt) (y d : Stmt) → n < length xs → ((r : Body) → before y r ≡ f (get_or xs n d) r) → body_of (set xs n y) ≡ from n (on_first f) (body_of xs)
set_at_place f n xs y d h e =
    replaced n xs y h ∙ ap (onto (take n xs)) (e (body_of (drop (suc n) xs))) ∙ sym (from_at f n xs d h)

pub said_with : (c : Content) (s : Stmt) (r : Body) → before (with_content c s) r ≡ saying c s r
said_with c s r = refl

-- the first part behind a cut
first_behind : (n : ℕ) (xs : List Stmt) (d : Stmt) → n < length xs → d ≡ get_or (drop n xs) 0 d → d ≡ get_or xs n d
first_behind n xs d h v = v ∙ ap (λ l. get_or l 0 d) (drop-cons xs n d h)

-- how many parts a list has that is a block
length_of : (fs : List Stmt) (b : Body) → body_of fs ≡ b → length fs ≡ width b
length_of fs b e = sym (width_body fs) ∙ ap width e

-- how many parts the lists have that are the blocks of the part behind a cut
pub count_of : (n k : ℕ) (xs fs ss : List Stmt) (d i : Stmt) → n < length xs → d ≡ get_or (drop n xs) 0 d → i ≡ get_or xs n i
    → k ≡ width (first_block i) + width (second_block i) → body_of fs ≡ first_block d → body_of ss ≡ second_block d → k ≡ length fs + length ss
count_of n k xs fs ss d i h v w e f s =
    let is : i ≡ d = w ∙ get_or_default xs n i d h ∙ sym (first_behind n xs d h v) in
    omega (arith, e ∙ ap (λ x. width (first_block x) + width (second_block x)) is, length_of fs (first_block d) f, length_of ss (second_block d) s)

-- what stands in a part put in its place
pub spliced : (n : ℕ) (xs fs ss rs : List Stmt) (d : Stmt) → n < length xs → d ≡ get_or (drop n xs) 0 d → rs ≡ remove (drop n xs) 0 → body_of fs ≡ first_block d → body_of ss ≡ second_block d
    → body_of (((take n xs ++ fs) ++ ss) ++ rs) ≡ from n (on_first unwrapped) (body_of xs)
spliced n xs fs ss rs d h v r f s =
    let cut : drop n xs ≡ get_or xs n d ∷ drop (suc n) xs = drop-cons xs n d h in
    let is : d ≡ get_or xs n d = first_behind n xs d h v in
    let left : rs ≡ drop (suc n) xs = r ∙ ap (λ l. remove l 0) cut in
    joined_append ((take n xs ++ fs) ++ ss) rs
    ∙ ap (λ b. joined b (body_of rs)) (joined_append (take n xs ++ fs) ss)
    ∙ joined_twice (body_of (take n xs ++ fs)) (body_of ss) (body_of rs)
    ∙ ap (λ b. joined b (joined (body_of ss) (body_of rs))) (joined_append (take n xs) fs)
    ∙ joined_twice (body_of (take n xs)) (body_of fs) (joined (body_of ss) (body_of rs))
    ∙ joined_onto (take n xs) (joined (body_of fs) (joined (body_of ss) (body_of rs)))
    ∙ ap (λ b. onto (take n xs) (joined b (joined (body_of ss) (body_of rs)))) f
    ∙ ap (λ b. onto (take n xs) (joined (first_block d) (joined b (body_of rs)))) s
    ∙ ap (λ l. onto (take n xs) (unwrapped d (body_of l))) left
    ∙ ap (λ x. onto (take n xs) (unwrapped x (body_of (drop (suc n) xs)))) is
    ∙ sym (from_at unwrapped n xs d h)

-- the first parts of a block, and those behind them
pub firsts_take : (n : ℕ) (xs : List Stmt) → body_of (take n xs) ≡ firsts n (body_of xs)
firsts_take zero xs = refl
firsts_take (suc n) [] = refl
firsts_take (suc n) (If t e a b ∷ xs) = ap (branch t e a b) (firsts_take n xs)
firsts_take (suc n) (s ∷ xs) = ap (before s) (firsts_take n xs)

pub later_drop : (n : ℕ) (xs : List Stmt) → body_of (drop n xs) ≡ later n (body_of xs)
later_drop zero xs = refl
later_drop (suc n) [] = refl
later_drop (suc n) (If t e a b ∷ xs) = later_drop n xs
later_drop (suc n) (s ∷ xs) = later_drop n xs

-- the walk to a part: those before a place don't hold it
pub at_after : (t : Tag) (f : Stmt → Body → Body) (n : ℕ) (xs : List Stmt) (d : Stmt) → n < length xs → times t (body_of (take n xs)) ≡ 0
    → at_part t f (body_of xs) ≡ onto (take n xs) (at_part t f (before (get_or xs n d) (body_of (drop (suc n) xs))))
at_after t f n [] d h z = absurd (omega (arith, h))
at_after t f zero (s ∷ xs) d h z = refl
at_after t f (suc n) (s ∷ xs) d h z =
    let k = times_before t s (body_of (take n xs)) in
    at_before t f s (body_of xs) (omega (arith, z, k)) ∙ ap (before s) (at_after t f n xs d (omega (arith, h)) (omega (arith, z, k)))

pub times_onto : (t : Tag) (p : List Stmt) (b : Body) → times t (onto p b) ≡ times t (body_of p) + times t b
times_onto t [] b = omega arith
times_onto t (s ∷ p) b = omega (arith, times_before t s (onto p b), times_before t s (body_of p), times_onto t p b)

onto_at : (n : ℕ) (xs : List Stmt) (d : Stmt) → n < length xs → body_of xs ≡ onto (take n xs) (before (get_or xs n d) (body_of (drop (suc n) xs)))
onto_at n [] d h = absurd (omega (arith, h))
onto_at zero (s ∷ xs) d h = refl
onto_at (suc n) (s ∷ xs) d h = ap (before s) (onto_at n xs d (omega (arith, h)))

-- how often a tag stands before, at and behind a place
pub times_at : (t : Tag) (n : ℕ) (xs : List Stmt) (d : Stmt) → n < length xs
    → times t (body_of xs) ≡ times t (body_of (take n xs)) + times t (before (get_or xs n d) done) + times t (body_of (drop (suc n) xs))
times_at t n xs d h =
    omega (arith, ap (times t) (onto_at n xs d h), times_onto t (take n xs) (before (get_or xs n d) (body_of (drop (suc n) xs))), times_before t (get_or xs n d) (body_of (drop (suc n) xs)))

pub times_next : (t : Tag) (n : ℕ) (xs : List Stmt) (d : Stmt) → n < length xs → times t (body_of (take (suc n) xs)) ≡ times t (body_of (take n xs)) + times t (before (get_or xs n d) done)
times_next t n [] d h = absurd (omega (arith, h))
times_next t zero (s ∷ xs) d h = omega arith
times_next t (suc n) (s ∷ xs) d h = omega (arith, times_before t s (body_of (take (suc n) xs)), times_before t s (body_of (take n xs)), times_next t n xs d (omega (arith, h)))

-- the part itself
pub at_it : (t : Tag) (f : Stmt → Body → Body) (n : ℕ) (xs : List Stmt) (d : Stmt) → n < length xs → times t (body_of (take n xs)) ≡ 0 → same_tag (tag_of (get_or xs n d)) t ≡ true
    → from n (on_first f) (body_of xs) ≡ at_part t f (body_of xs)
at_it t f n xs d h z is =
    from_at f n xs d h
    ∙ ap (onto (take n xs)) (sym (at_head t f (get_or xs n d) (body_of (drop (suc n) xs)) is))
    ∙ sym (at_after t f n xs d h z)

-- a part that holds it but isn't it
at_holding : (t : Tag) (f : Stmt → Body → Body) (s : Stmt) (rest : Body) → same_tag (tag_of s) t ≡ false → times t rest ≡ 0 → at_part t f (before s rest) ≡ before (in_part t f s) rest
at_holding t f (If u e a b) rest h z = rw h (ap (branch u e (at_part t f a) (at_part t f b)) (absent t f rest z))
at_holding t f (While u e b) rest h z = rw h (ap (loop u e (at_part t f b)) (absent t f rest z))
at_holding t f s rest h z = rw h (ap (before s) (absent t f rest z))

pub at_in : (t : Tag) (f : Stmt → Body → Body) (n : ℕ) (xs : List Stmt) (d y : Stmt) → n < length xs → times t (body_of (take n xs)) ≡ 0 → same_tag (tag_of (get_or xs n d)) t ≡ false
    → times t (body_of (drop (suc n) xs)) ≡ 0 → y ≡ in_part t f (get_or xs n d) → body_of (set xs n y) ≡ at_part t f (body_of xs)
at_in t f n xs d y h z is r e =
    replaced n xs y h
    ∙ ap (λ x. onto (take n xs) (before x (body_of (drop (suc n) xs)))) e
    ∙ ap (onto (take n xs)) (sym (at_holding t f (get_or xs n d) (body_of (drop (suc n) xs)) is r))
    ∙ sym (at_after t f n xs d h z)

-- a part that doesn't hold it
pub not_in : (t : Tag) (f : Stmt → Body → Body) (s : Stmt) → times t (before s done) ≡ 0 → in_part t f s ≡ s
not_in t f (If u e a b) h =
    let i : at_part t f a ≡ a = absent t f a (omega (arith, h)) in
    let j : at_part t f b ≡ b = absent t f b (omega (arith, h)) in cc
not_in t f (While u e b) h =
    let j : at_part t f b ≡ b = absent t f b (omega (arith, h)) in cc
not_in t f s h = refl

-- a part that was found through a reference
pub copied_some : {A : Type 0} (o : Option (Bor A)) → is_some (option_copied o) ≡ is_some o
copied_some None = refl
copied_some (Some x) = refl

-- a cut behind the first parts
firsts_all : (n : ℕ) (xs : List Stmt) → length xs ≤ n → firsts n (body_of xs) ≡ body_of xs
firsts_all zero [] h = refl
firsts_all zero (s ∷ xs) h = absurd (omega (arith, h))
firsts_all (suc n) [] h = refl
firsts_all (suc n) (If t e a b ∷ xs) h = ap (branch t e a b) (firsts_all n xs (omega (arith, h)))
firsts_all (suc n) (s ∷ xs) h = ap (before s) (firsts_all n xs (omega (arith, h)))

later_all : (n : ℕ) (xs : List Stmt) → length xs ≤ n → later n (body_of xs) ≡ done
later_all zero [] h = refl
later_all zero (s ∷ xs) h = absurd (omega (arith, h))
later_all (suc n) [] h = refl
later_all (suc n) (If t e a b ∷ xs) h = later_all n xs (omega (arith, h))
later_all (suc n) (s ∷ xs) h = later_all n xs (omega (arith, h))

least : (b : Bool) (n k m : ℕ) → leb n k ≡ b → m ≡ min n k → (m ≡ n) ⊎ ((k ≤ m) × (k ≤ n))
least true n k m e h = inl (omega (arith, leb-true n k e, h))
least false n k m e h = inr (omega (arith, leb-false n k e, h), omega (arith, leb-false n k e))

pub firsts_cut : (n m : ℕ) (xs : List Stmt) → m ≡ min n (length xs) → body_of (take m xs) ≡ firsts n (body_of xs)
firsts_cut n m xs h = elim (least (leb n (length xs)) n (length xs) m refl h) [
  | inl e ↦ ap (λ k. body_of (take k xs)) e ∙ firsts_take n xs
  | inr l ↦ firsts_take m xs ∙ firsts_all m xs l.0 ∙ sym (firsts_all n xs l.1)
]

pub later_cut : (n m : ℕ) (xs : List Stmt) → m ≡ min n (length xs) → body_of (drop m xs) ≡ later n (body_of xs)
later_cut n m xs h = elim (least (leb n (length xs)) n (length xs) m refl h) [
  | inl e ↦ ap (λ k. body_of (drop k xs)) e ∙ later_drop n xs
  | inr l ↦ later_drop m xs ∙ later_all m xs l.0 ∙ sym (later_all n xs l.1)
]

-- a new part put round parts from a place on
pub enclosed : (t : Tag) (c : Content) (at n m : ℕ) (xs ps rest : List Stmt) (s : Stmt) (b : Body) → at ≤ length xs → b ≡ body_of (drop at xs)
    → ps ≡ take at xs ++ (s ∷ []) → s ≡ made t c (firsts n b) (firsts m (later n b)) → body_of rest ≡ later m (later n b)
    → body_of (ps ++ rest) ≡ from at (rewrapped t c n m) (body_of xs)
enclosed t c at n m xs ps rest s b h is p e r =
    ap (λ y. body_of (y ++ rest)) p
    ∙ ap body_of (append_assoc (take at xs) (s ∷ []) rest)
    ∙ body_of_append (take at xs) (s ∷ rest)
    ∙ ap (λ y. onto (take at xs) (before y (body_of rest))) e
    ∙ ap (λ y. onto (take at xs) (before (made t c (firsts n b) (firsts m (later n b))) y)) r
    ∙ ap (λ y. onto (take at xs) (rewrapped t c n m y)) is
    ∙ sym (from_le (rewrapped t c n m) at xs h)

-- what the walk knows at a part, when it goes in there
pub record Visit (t : Tag) (n : ℕ) (xs : List Stmt) (b : Body) (d : Stmt) : Type 0 where
  pub below : n < length xs
  pub none : times t (body_of (take n xs)) ≡ 0
  pub once : times t (before d done) ≤ 1
  pub here : times t (body_of xs) ≡ times t (before d done) + times t (body_of (drop (suc n) xs))

pub visit : (t : Tag) (n : ℕ) (xs : List Stmt) (b : Body) (d : Stmt) → n < length xs → times t (body_of (take n xs)) ≡ 0 → body_of xs ≡ b → times t b ≤ 1 → d ≡ get_or xs n d → Visit t n xs b d
visit t n xs b d h z e le v =
    let k : times t (body_of xs) ≡ times t (body_of (take n xs)) + times t (before (get_or xs n d) done) + times t (body_of (drop (suc n) xs)) = times_at t n xs d h in
    let s : times t (before d done) ≡ times t (before (get_or xs n d) done) = ap (λ y. times t (before y done)) v in
    let l : times t (body_of xs) ≡ times t b = ap (times t) e in
    record { below = h; none = z; once = omega (arith, k, s, l, le); here = omega (arith, k, s, z) }

-- a part that holds it was changed
pub went_in : (t : Tag) (f : Stmt → Body → Body) (n : ℕ) (xs : List Stmt) (b : Body) (d y : Stmt) → Visit t n xs b d → body_of xs ≡ b → times t b ≤ 1 → d ≡ get_or xs n d
    → same_tag (tag_of d) t ≡ false → one_if (same_tag (tag_of d) t) + 1 ≡ times t (before d done) → y ≡ in_part t f d → body_of (set xs n y) ≡ at_part t f b
went_in t f n xs b d y k e le v other found is =
    at_in t f n xs d y k.below k.none (ap (λ s. same_tag (tag_of s) t) (sym v) ∙ other) (omega (arith, k.here, found, le, ap (times t) e)) (is ∙ ap (in_part t f) v)
    ∙ ap (at_part t f) e

-- a part that doesn't hold it is as it was
pub went_by : (t : Tag) (f : Stmt → Body → Body) (n : ℕ) (xs : List Stmt) (b : Body) (d y : Stmt) → Visit t n xs b d → d ≡ get_or xs n d
    → same_tag (tag_of d) t ≡ false → one_if (same_tag (tag_of d) t) + 0 ≡ times t (before d done) → y ≡ in_part t f d
    → (set xs n y ≡ xs) × (times t (body_of (take (suc n) xs)) ≡ 0)
went_by t f n xs b d y k v other found is =
    let z : times t (before d done) ≡ 0 = omega (arith, found, ap one_if other) in
    let same : y ≡ get_or xs n d = is ∙ not_in t f d z ∙ v in
    (ap (set xs n) same ∙ set-get_or xs n d, omega (arith, times_next t n xs d k.below, k.none, ap (λ s. times t (before s done)) (sym v), z))

-- the first of two blocks holds it
pub in_yes : (t : Tag) (f : Stmt → Body → Body) (u : Tag) (e : Expr) (a b a' : Body) → times t (before (If u e a b) done) ≤ 1 → 1 ≡ times t a → a' ≡ at_part t f a → If u e a' b ≡ in_part t f (If u e a b)
in_yes t f u e a b a' le h is =
    let z : at_part t f b ≡ b = absent t f b (omega (arith, le, h)) in cc
