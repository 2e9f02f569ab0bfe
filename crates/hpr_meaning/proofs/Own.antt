-- The laws of hpr's own runs: each is the law whatever the contents mean, by `standard`.
use Rattle.std.proofs.Common.{◌≡◌, ℕ, ◌+◌, List, [], ◌∷◌, Some, None, Contains, refl, sym, ap, subst, ◌∙◌, arith}
use Rattle.std.specs.List.{AllByRecursion}
use Rattle.hpr_syntax.specs.Body.{Body}
use Rattle.hpr_syntax.specs.Tree.{Tree}
use Rattle.hpr_syntax.specs.Shape.{IsProgram}
use Rattle.hpr_syntax.specs.Skeleton.{Distinct, skeleton}
use Rattle.hpr_syntax.specs.Values.{Values}
use Rattle.hpr_syntax.specs.declared.value.Value.{Value}
use Rattle.hpr_syntax.specs.Run.{FinalValues, ends, faults, run, run_body}
use Rattle.hpr_syntax.specs.Meaning.{Ends, Keeps}
use Rattle.hpr_graph.specs.declared.vertex.Vertex.{Vertex}
use Rattle.hpr_graph.specs.Answer.{Fits, IsWithoutConflict, graphs_of, merged_of, merged_of_all}
use Rattle.hpr_graph.specs.Conflicts.{HasNoConflict}
use Rattle.hpr_graph.specs.Graphs.{Same}
use Rattle.hpr_graph.specs.ProgramGraph.{graph_of}
use Rattle.hpr_graph.specs.Slices.{slice_of}
use Rattle.hpr_paths.specs.Times.{Place}
use Rattle.hpr_meaning.specs.Any.Standard.{standard}
use Rattle.hpr_meaning.specs.Any.Instances as any
use Rattle.hpr_meaning.specs.Any.TimeLaw as time
use Rattle.hpr_meaning.specs.Instances.{Instance, Course, after_of, course_of}
use Rattle.hpr_meaning.specs.TimeLaw.{IsAscending, IsNext, IsTimely}
use Rattle.hpr_meaning.specs.OrderLaw.{IsOrdered}
use Rattle.hpr_meaning.specs.SliceLaw.{SharesSlice}
use Rattle.hpr_meaning.specs.CoverLaw.{Version, IsCovered, DoesEnd, steps_of}
use Rattle.hpr_meaning.specs.KeptLaw.{Finished, KeepsAll}
use Rattle.hpr_meaning.specs.UnionLaw.{KeepsEach}
use Rattle.hpr_meaning.proofs.TraceRun.{trace_run}
use Rattle.hpr_meaning.proofs.Timely as timed
use Rattle.hpr_meaning.proofs.Ordered as edges
use Rattle.hpr_meaning.proofs.SharedSlices as slices
use Rattle.hpr_meaning.proofs.CoveredEnd as cover
use Rattle.hpr_meaning.proofs.KeptMeaning as kept
use Rattle.hpr_meaning.proofs.SidesKept.{each_kept, free_of_two}
use Rattle.hpr_meaning.proofs.Standard.{standard_laws, after, body_is, to_outcome, to_standard, from_standard, keeps_standard}

-- a trace is the run
after_is : (s : Values) (c : Course) → after (any.after_of standard s c) ≡ after_of s c
after_is s (any.goes log left) = refl
after_is s (any.stops a None log left) = refl
after_is s (any.stops a (Some f) log left) = refl

pub trace_is_run : (p : Tree) (s : Values) (n : ℕ) → after_of s (course_of p s n) ≡ run_body p.body s n
trace_is_run p s n = sym (after_is s (course_of p s n)) ∙ (ap after (trace_run standard standard_laws s p.body [] [] n) ∙ body_is p.body s n)

-- time
ascending_is : (R : Place → Place → Type 0) (is : List Instance) → time.IsAscending standard R is → IsAscending R is
ascending_is R [] h = tt
ascending_is R (i ∷ is) h = (h.0, ascending_is R is h.1)

next_place : (p : Body) (is : List Instance) (a : Place) → time.IsNext standard p is a → IsNext p is a
next_place p is a next = record { due = next.due; not_listed = next.not_listed; behind = next.behind; due_before = next.due_before }

pub timely : (p : Tree) (s : Values) (n : ℕ) → IsProgram p → IsTimely p s n
timely p s n is = let law = timed.timely standard standard_laws p s n is in record {
  ascending = ascending_is _ _ law.ascending;
  listed_due = law.listed_due;
  due_before_listed = law.due_before_listed;
  due_at_end = λ finals steps e. law.due_at_end finals steps (to_outcome p s n (ends finals steps) e);
  stop_next = λ a is_stop. next_place p.body _ a (law.stop_next a is_stop);
}

-- order by edges
pub ordered : (p : Tree) (s : Values) (n : ℕ) → IsProgram p → IsOrdered p s n
ordered p s n is = let law = edges.ordered standard standard_laws p s n is in record {
  by_flow = λ x i j d u ci cj rd ru f. let by = law.by_flow x i j d u ci cj rd ru f in record { lesser = by.lesser; greater = by.greater; equal = by.equal };
  by_use = law.by_use;
}

-- shared slices
pub slice_shared : (p q : Tree) (S : Vertex → Type 0) (s : Values) (n m steps : ℕ) (finals : FinalValues) → IsProgram p → IsProgram q
    → Same (slice_of (graph_of p) S) (slice_of (graph_of q) S) → run p s n ≡ ends finals steps → SharesSlice p q S s n m
slice_shared p q S s n m steps finals is_p is_q same e =
    let law = slices.slice_shared standard standard_laws p q S s n m steps finals is_p is_q same (to_outcome p s n (ends finals steps) e) in record {
      done_alike = law.done_alike;
      no_fault = λ t c fault k r. law.no_fault t c fault k (to_outcome q s m (faults t fault k) r);
      done_by_both = λ g k r. law.done_by_both g k (to_outcome q s m (ends g k) r);
      same_finals = λ f g j k a b. law.same_finals f g j k (to_outcome p s n (ends f j) a) (to_outcome q s m (ends g k) b);
    }

pub final_name : (p : Tree) (s : Values) (n : ℕ) (dp : Distinct (skeleton p.body)) (finals : FinalValues) (steps : ℕ) → run p s n ≡ ends finals steps
    → (x : List ℕ) (v : Value) → Contains finals (x, v) → Contains p.finals x
final_name p s n dp finals steps e = slices.final_name standard standard_laws p s n dp finals steps (to_outcome p s n (ends finals steps) e)

-- the covered end
pub covered_end : (m : Tree) (s : Values) (versions : List Version) → IsProgram m → ((i : Version) → Contains versions i → DoesEnd s i) → IsCovered versions m
    → (f : FinalValues) × Ends m s (steps_of versions) f
covered_end m s versions is ended covered =
    let (f, end) = cover.covered_end standard standard_laws m s versions is (λ i c. let (is_i, (g, e)) = ended i c in (is_i, (g, to_standard i.0 s i.1 g e))) covered in
    (f, from_standard m s (steps_of versions) f end)

-- kept meaning
pub meaning_kept : (base m : Tree) (vs : List Tree) → IsProgram base → AllByRecursion IsProgram vs → IsProgram m → Fits (merged_of_all base vs) m → KeepsEach base vs → KeepsAll base vs m
meaning_kept base m vs is all is_m fits keeps = keeps_standard base m vs (kept.meaning_kept standard standard_laws base m vs is all is_m fits keeps)

-- what keeps the meaning of both of two keeps it in the words of two
pub keeps_two : (base a b m : Tree) → KeepsAll base (a ∷ b ∷ []) m → Keeps base a b m
keeps_two base a b m keeps s n0 n1 n2 f0 f1 f2 e0 e1 e2 =
    let of_a : Finished = record { program = a; steps = n1; finals = f1 } in
    let of_b : Finished = record { program = b; steps = n2; finals = f2 } in
    let (f, ended, kept) = keeps s n0 f0 (of_a ∷ of_b ∷ []) refl e0 (e1, (e2, tt)) in
    let sum : n0 + (n1 + (n2 + 0)) ≡ n0 + n1 + n2 = omega arith in (
      f,
      subst (λ n. Ends m s n f) sum ended,
      record { changed_by_a = kept.changed.0; changed_by_b = kept.changed.1.0; agreed = λ x v c0 c1 c2. kept.agreed x v c0 (c1, (c2, tt)) },
    )

-- where there is no conflict
pub all_kept : (base m : Tree) (vs : List Tree) → IsProgram base → AllByRecursion IsProgram vs → IsProgram m → HasNoConflict (graph_of base) (graphs_of vs) → Fits (merged_of_all base vs) m
    → KeepsAll base vs m
all_kept base m vs is all is_m free fits = meaning_kept base m vs is all is_m fits (each_kept base vs is all free)

pub kept_without_conflict : (base a b m : Tree) → IsProgram base → IsProgram a → IsProgram b → IsProgram m → IsWithoutConflict base a b → Fits (merged_of base a b) m → Keeps base a b m
kept_without_conflict base a b m is is_a is_b is_m free fits =
    keeps_two base a b m (all_kept base m (a ∷ b ∷ []) is (is_a, (is_b, tt)) is_m (free_of_two base a b free) fits)
