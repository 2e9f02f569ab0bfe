-- What a list has after its runs were put in.
use Rattle.std.proofs.Common.{◌≡◌, ℕ, zero, suc, ◌+◌, ◌-◌, ◌<◌, ◌≤◌, inl, inr, Option, Some, None, List, [], ◌∷◌, ◌++◌, Vec, Global, length, reverse, replicate, set, drop, get_or, Contains, slice_get, refl, sym, ap, ap₂, ◌∙◌, subst, append_assoc, arith, length-append, length-set}
use Rattle.std.proofs.lemmas.Bool.{cases_eq}
use Rattle.std.proofs.lemmas.List.{append-nil, map-append, map-set, get_or-map, get_or-set_same, get_or-set_other, length-map, length-replicate, replicate_more, reverse-append}
use Rattle.std.proofs.lemmas.Option.{slice_get_within}
use Rattle.hpr_graph.specs.declared.vertex.Vertex.{Vertex}
use Rattle.hpr_graph.specs.Graphs.{IsOnce}
use Rattle.hpr_graph.specs.Rank.{IsAddedAt, IsJoined}
use Rattle.hpr_graph.proofs.Lists.{some_inj, contains_at, in_later, once_head, once_tail}
use Rattle.hpr_order.specs.Joining.{runs_of, run_at, with_first, IsTaken, woven}
use Rattle.hpr_order.proofs.Ranks.{joined_has}

-- what comes first, where a run and the list behind it begin
first_of : (run xs ys : List Vertex) (x : Vertex) → slice_get (run ++ x ∷ xs) 0 ≡ slice_get (run ++ x ∷ ys) 0
first_of [] xs ys x = refl
first_of (r ∷ run) xs ys x = refl

first_dropped : (xs : List Vertex) (n : ℕ) → slice_get (drop n xs) 0 ≡ slice_get xs n
first_dropped xs zero = refl
first_dropped [] (suc n) = refl
first_dropped (x ∷ xs) (suc n) = first_dropped xs n

one_before : (run : List Vertex) (x : Vertex) (whole front back : List Vertex) → whole ≡ front ++ back
    → run ++ x ∷ whole ≡ (run ++ x ∷ front) ++ back
one_before run x whole front back is = ap (λ (l : List Vertex). run ++ x ∷ l) is ∙ sym (append_assoc run (x ∷ front) back)

-- one more at the head of a run stands right before what came first there
put_before : (runs : List (List Vertex)) (xs : List Vertex) (at : ℕ) (v : Vertex) → length runs ≡ length xs + 1 → at ≤ length xs
    → (front back : List Vertex) × (woven runs xs ≡ front ++ back) × (woven (with_first runs at v) xs ≡ front ++ v ∷ back)
    × (slice_get back 0 ≡ slice_get (run_at runs at ++ drop at xs) 0)
put_before [] xs at v count within = absurd (omega (arith, count))
put_before (run ∷ []) [] zero v count within = ([], run ++ [], refl, refl, refl)
put_before (run ∷ next ∷ runs) [] zero v count within = absurd (omega (arith, count))
put_before (run ∷ runs) (x ∷ xs) zero v count within = ([], run ++ x ∷ woven runs xs, refl, refl, first_of run (woven runs xs) xs x)
put_before (run ∷ runs) [] (suc at) v count within = absurd (omega (arith, within))
put_before (run ∷ runs) (x ∷ xs) (suc at) v count within =
    let (front, back, was, is, first) = put_before runs xs at v (omega (arith, count)) (omega (arith, within)) in (
      run ++ x ∷ front,
      back,
      one_before run x (woven runs xs) front back was,
      one_before run x (woven (with_first runs at v) xs) front (v ∷ back) is,
      first,
    )

added : (v : Vertex) (front back zs ys : List Vertex) (o : Option Vertex) → zs ≡ front ++ back → ys ≡ front ++ v ∷ back
    → o ≡ slice_get back 0 → IsAddedAt v o zs ys
added v front [] zs ys None was is first = is ∙ ap (λ (l : List Vertex). l ++ v ∷ []) (sym (was ∙ append-nil front))
added v front [] zs ys (Some w) was is first = absurd cc
added v front (b ∷ back) zs ys None was is first = absurd cc
added v front (b ∷ back) zs ys (Some w) was is first =
    let e : b ≡ w = sym (some_inj w b first) in
    (front, back, was ∙ ap (λ (z : Vertex). front ++ z ∷ back) e, is ∙ ap (λ (z : Vertex). front ++ v ∷ z ∷ back) e)

-- empty runs
blank_at : (n at : ℕ) → run_at (replicate n []) at ≡ []
blank_at zero at = refl
blank_at (suc n) zero = refl
blank_at (suc n) (suc at) = blank_at n at

blank_woven : (n : ℕ) (xs : List Vertex) → woven (replicate n []) xs ≡ xs
blank_woven zero xs = refl
blank_woven (suc n) [] = blank_woven n []
blank_woven (suc n) (x ∷ xs) = ap (λ (l : List Vertex). x ∷ l) (blank_woven n xs)

none_dropped : (xs : List Vertex) → slice_get (drop (length xs) xs) 0 ≡ None
none_dropped [] = refl
none_dropped (x ∷ xs) = none_dropped xs

-- the runs of the parts that were taken, from the end on: a run for a part that wasn't taken is empty
pub record AreRuns (xs done : List Vertex) (runs : List (List Vertex)) (at : ℕ) : Type 0 where
  pub count : length runs ≡ length xs + 1
  pub within : at ≤ length xs
  pub joined : IsJoined done xs (woven runs xs)
  pub next : slice_get done 0 ≡ slice_get (run_at runs at ++ drop at xs) 0
  pub blank : (n : ℕ) (v : Vertex) → slice_get xs n ≡ Some v → ¬ Contains done v → run_at runs n ≡ []

runs_start : (xs : List Vertex) (runs : List (List Vertex)) → runs ≡ replicate (length xs + 1) [] → AreRuns xs [] runs (length xs)
runs_start xs runs is =
    let n : ℕ = length xs + 1 in
    subst (λ (rs : List (List Vertex)). AreRuns xs [] rs (length xs)) (sym is) (record {
      count = length-replicate n [];
      within = omega arith;
      joined = blank_woven n xs;
      next = sym (ap (λ (run : List Vertex). slice_get (run ++ drop (length xs) xs) 0) (blank_at n (length xs)) ∙ none_dropped xs);
      blank = λ k v there new. blank_at n k;
    })

module _ (xs done : List Vertex) (runs : List (List Vertex)) (at : ℕ) (h : AreRuns xs done runs at) (v : Vertex) (new : ¬ Contains done v) where
  -- where no part of the list was taken, its run is empty, so that the part comes first
  first_listed : (n : ℕ) (w : Vertex) → slice_get xs n ≡ Some w → ¬ Contains done w → slice_get (run_at runs n ++ drop n xs) 0 ≡ Some w
  first_listed n w there other =
      ap (λ (run : List Vertex). slice_get (run ++ drop n xs) 0) (h.blank n w there other) ∙ first_dropped xs n ∙ there

  taken_listed : (n : ℕ) → slice_get xs n ≡ Some v → AreRuns xs (v ∷ done) runs n
  taken_listed n there = record {
    count = h.count;
    within = omega (arith, slice_get_within xs n v there);
    joined = (woven runs xs, h.joined, inl ((joined_has done xs (woven runs xs) h.joined v).1 (inl (contains_at xs n v there)), refl));
    next = sym (first_listed n v there new);
    blank = λ k w is other. h.blank k w is (λ was. other (in_later v w done was));
  }

  taken_new : ¬ Contains xs v → AreRuns xs (v ∷ done) (with_first runs at v) at
  taken_new stranger =
      let (front, back, was, is, first) = put_before runs xs at v h.count h.within in
      let run : List Vertex = v ∷ run_at runs at in
      let here : at < length runs = omega (arith, h.count, h.within) in record {
        count = length-set runs at run ∙ h.count;
        within = h.within;
        joined = (
          woven runs xs,
          h.joined,
          inr (
            λ there. elim ((joined_has done xs (woven runs xs) h.joined v).0 there) [ inl listed ↦ stranger listed | inr taken ↦ new taken ],
            added v front back (woven runs xs) (woven (with_first runs at v) xs) (slice_get done 0) was is (h.next ∙ sym first),
          ),
        );
        next = sym (ap (λ (r : List Vertex). slice_get (r ++ drop at xs) 0) (get_or-set_same runs at run [] here));
        blank = λ k w there other.
            (let kept : ¬ Contains done w = λ before. other (in_later v w done before) in
            elim (cases_eq k at) [
              | inl e ↦ absurd
                  (let listed : slice_get xs at ≡ Some w = subst (λ (n : ℕ). slice_get xs n ≡ Some w) e there in
                  kept (contains_at done 0 w (h.next ∙ first_listed at w listed kept)))
              | inr ne ↦ get_or-set_other runs at k run [] ne ∙ h.blank k w there kept
            ]);
      }

  pub runs_taken : (next : ℕ) (new_runs : List (List Vertex)) → IsTaken xs v at runs next new_runs → AreRuns xs (v ∷ done) new_runs next
  runs_taken next new_runs (inl (there, same)) =
      subst (λ (rs : List (List Vertex)). AreRuns xs (v ∷ done) rs next) (sym same) (taken_listed next there)
  runs_taken next new_runs (inr (stranger, stays, grown)) =
      subst (λ (rs : List (List Vertex)). AreRuns xs (v ∷ done) rs next) (sym grown)
      (subst (λ (n : ℕ). AreRuns xs (v ∷ done) (with_first runs at v) n) (sym stays) (taken_new stranger))

-- some parts are left, and the others were taken
abbrev pub AreTaken : List Vertex → List Vertex → List Vertex → List (List Vertex) → ℕ → Type 0
AreTaken xs all left runs at = (done : List Vertex) × (all ≡ left ++ done) × AreRuns xs done runs at

pub all_left : (xs all : List Vertex) (runs : List (List Vertex)) (n : ℕ) → n ≡ length xs → runs ≡ replicate (n + 1) []
    → AreTaken xs all all runs n
all_left xs all runs n is blank =
    let start = runs_start xs runs (blank ∙ ap (λ (k : ℕ). replicate (k + 1) []) is) in
    ([], sym (append-nil all), subst (λ (k : ℕ). AreRuns xs [] runs k) (sym is) start)

back_once : (left done : List Vertex) → IsOnce (left ++ done) → IsOnce done
back_once [] done once = once
back_once (x ∷ left) done once = back_once left done (once_tail x (left ++ done) once)

pub taken_more : (xs all left rest : List Vertex) (v : Vertex) (runs new_runs : List (List Vertex)) (at next : ℕ) → IsOnce all
    → left ≡ rest ++ v ∷ [] → AreTaken xs all left runs at → IsTaken xs v at runs next new_runs → AreTaken xs all rest new_runs next
taken_more xs all left rest v runs new_runs at next once last (done, parts, h) taken =
    let is : all ≡ rest ++ v ∷ done = parts ∙ ap (λ (l : List Vertex). l ++ done) last ∙ append_assoc rest (v ∷ []) done in
    let new : ¬ Contains done v = once_head v done (back_once rest (v ∷ done) (subst (λ (l : List Vertex). IsOnce l) is once)) in
    (v ∷ done, is, runs_taken xs done runs at h v new next new_runs taken)

-- the rows of the runs
abbrev run_of : Vec Vertex Global → List Vertex
run_of row = reverse row.items

pub blank_runs_more : (rows more : List (Vec Vertex Global)) (row : Vec Vertex Global) (n : ℕ) → more ≡ rows ++ row ∷ [] → row.items ≡ []
    → runs_of rows ≡ replicate n [] → runs_of more ≡ replicate (n + 1) []
blank_runs_more rows more row n is empty blank =
    ap runs_of is
    ∙ map-append run_of rows (row ∷ [])
    ∙ ap (λ (run : List Vertex). runs_of rows ++ run ∷ []) (ap reverse empty)
    ∙ ap (λ (runs : List (List Vertex)). runs ++ [] ∷ []) blank
    ∙ replicate_more n []

pub first_put : (rows : List (Vec Vertex Global)) (at : ℕ) (row new : Vec Vertex Global) (v : Vertex) → at < length rows
    → row ≡ get_or rows at row → new.items ≡ row.items ++ v ∷ [] → runs_of (set rows at new) ≡ with_first (runs_of rows) at v
first_put rows at row new v l e h =
    let old : run_of row ≡ run_at (runs_of rows) at = sym (get_or-map run_of rows at row [] l ∙ ap run_of (sym e)) in
    map-set run_of rows at new
    ∙ ap (set (runs_of rows) at) (ap reverse h ∙ reverse-append row.items (v ∷ []) ∙ ap (λ (run : List Vertex). v ∷ run) old)

-- the last run, and the vertex before it
woven_end : (runs : List (List Vertex)) (run xs : List Vertex) (x : Vertex) → length runs ≡ length xs + 1
    → woven (runs ++ run ∷ []) (xs ++ x ∷ []) ≡ woven runs xs ++ x ∷ run
woven_end [] run xs x count = absurd (omega (arith, count))
woven_end (r ∷ []) run [] x count =
    ap (λ (l : List Vertex). r ++ x ∷ l) (append-nil run) ∙ ap (λ (l : List Vertex). l ++ x ∷ run) (sym (append-nil r))
woven_end (r ∷ next ∷ runs) run [] x count = absurd (omega (arith, count))
woven_end (r ∷ runs) run (y ∷ xs) x count =
    ap (λ (l : List Vertex). r ++ y ∷ l) (woven_end runs run xs x (omega (arith, count)))
    ∙ sym (append_assoc r (y ∷ woven runs xs) (x ∷ run))

empty_if : {X : Type 0} (xs : List X) → length xs ≡ 0 → xs ≡ []
empty_if [] none = refl
empty_if (x ∷ xs) none = absurd (omega (arith, none))

-- what is written from the end on
module _ (whole out new_out list before : List Vertex) (rows rest : List (Vec Vertex Global)) (row : Vec Vertex Global) where
  pub woven_more : (v : Vertex) → rows ≡ rest ++ row ∷ [] → list ≡ before ++ v ∷ [] → length list ≡ length rows - 1
      → new_out ≡ (out ++ row.items) ++ v ∷ []
      → whole ≡ woven (runs_of rows) list ++ reverse out → whole ≡ woven (runs_of rest) before ++ reverse new_out
  woven_more v last ends count grown is =
      let fewer : length rest ≡ length before + 1 =
      omega (arith, count, ap length last, ap length ends, length-append rest (row ∷ []), length-append before (v ∷ [])) in
      let lengths : length (runs_of rest) ≡ length before + 1 = length-map rest run_of ∙ fewer in
      let old : woven (runs_of rows) list ≡ woven (runs_of rest) before ++ v ∷ run_of row =
      ap₂ woven (ap runs_of last ∙ map-append run_of rest (row ∷ [])) ends ∙ woven_end (runs_of rest) (run_of row) before v lengths in
      let new : reverse new_out ≡ v ∷ run_of row ++ reverse out =
      ap reverse grown ∙ reverse-append (out ++ row.items) (v ∷ []) ∙ ap (λ (l : List Vertex). v ∷ l) (reverse-append out row.items) in
      is ∙ ap (λ (l : List Vertex). l ++ reverse out) old ∙ append_assoc (woven (runs_of rest) before) (v ∷ run_of row) (reverse out)
      ∙ ap (λ (l : List Vertex). woven (runs_of rest) before ++ l) (sym new)

  pub woven_first : rows ≡ rest ++ row ∷ [] → list ≡ before ++ [] → length list ≡ 0 → length list ≡ length rows - 1
      → new_out ≡ out ++ row.items
      → whole ≡ woven (runs_of rows) list ++ reverse out → whole ≡ woven (runs_of rest) before ++ reverse new_out
  woven_first last ends none count grown is =
      let no_list : list ≡ [] = empty_if list none in
      let no_rest : rest ≡ [] = empty_if rest (omega (arith, none, count, ap length last, length-append rest (row ∷ []))) in
      let no_before : before ≡ [] = sym (append-nil before) ∙ sym ends ∙ no_list in
      let one : rows ≡ row ∷ [] = last ∙ ap (λ (rs : List (Vec Vertex Global)). rs ++ row ∷ []) no_rest in
      is ∙ ap (λ (l : List Vertex). l ++ reverse out) (ap₂ woven (ap runs_of one) no_list ∙ append-nil (run_of row))
      ∙ sym (ap reverse grown ∙ reverse-append out row.items)
      ∙ ap (λ (l : List Vertex). l ++ reverse new_out) (sym (ap₂ woven (ap runs_of no_rest) no_before))
