-- Kept meaning: a program with the merged graph ends with what each variant changed, and with what base and all variants agree on.
use Rattle.hpr_meaning.specs.Any.Meaning.{Meaning, HasLaws}
use Rattle.std.proofs.Common.{◌≡◌, ℕ, zero, suc, ◌+◌, List, [], ◌∷◌, ◌⊎◌, Contains, refl, sym, subst, inl, inr, arith}
use Rattle.std.specs.List.{AllByRecursion}
use Rattle.hpr_meaning.specs.Any.Kept.{Ends, Keeps}
use Rattle.hpr_meaning.specs.Any.Run.{FinalValues, final_values}
use Rattle.hpr_syntax.specs.Shape.{IsProgram}
use Rattle.hpr_syntax.specs.Tree.{Tree}
use Rattle.hpr_graph.specs.declared.vertex.Vertex.TheVariants.{Init, Final}
use Rattle.hpr_graph.specs.Answer.{Fits, graphs_of, merged_of_all}
use Rattle.hpr_graph.specs.Graphs.{Graph, Same}
use Rattle.hpr_graph.specs.Points.{IsShared, IsAffected, AllShare}
use Rattle.hpr_graph.specs.ProgramGraph.{graph_of}
use Rattle.hpr_graph.specs.Slices.{slice_at}
use Rattle.hpr_graph.proofs.Laws.{same_turned}
use Rattle.hpr_paths.proofs.Among.{Among, here, there, among_cons, among_none, among_contains, contains_among}
use Rattle.hpr_paths.proofs.Different.{distinct_program}
use Rattle.hpr_meaning.specs.Any.KeptLaw.{Finished, DoesFinish, HasChanged, HasValue, IsKeptOf, KeepsAll, programs_of, steps_in}
use Rattle.hpr_meaning.specs.UnionLaw.{KeepsIn, KeepsEach}
use Rattle.hpr_meaning.proofs.Items.{names_discrete}
use Rattle.hpr_meaning.proofs.MergedEnd.{in_program, merged_ends}
use Rattle.hpr_meaning.proofs.SharedSlices.{same_finals, final_name, finals_are, final_state, in_finals, value_in_finals, name_in_finals}
use Rattle.hpr_meaning.proofs.Unions.{keeps_preserved}

module _ (M : Meaning) (LW : HasLaws M) where
  name_among? : (x : List ℕ) (names : List (List ℕ)) → Dec (Among x names)
  name_among? x [] = no (λ h. among_none x h)
  name_among? x (y ∷ names) = go (names_discrete y x) (name_among? x names)
    where
      go : Dec (y ≡ x) → Dec (Among x names) → Dec (Among x (y ∷ names))
      go (yes e) d = yes (subst (λ z. Among z (y ∷ names)) e here)
      go (no n) (yes h) = yes (there h)
      go (no n) (no k) = no (λ h. both (among_cons h))
        where
          both : (y ≡ x) ⊎ Among x names → ⊥
          both (inl e) = n e
          both (inr h) = k h

  -- a final value that can't be missing is there
  stable_finals : (names : List (List ℕ)) (st : M.State) (x : List ℕ) (v : M.Value) → ¬ (¬ (Among (x, v) (final_values M names st))) → Among (x, v) (final_values M names st)
  stable_finals names st x v nn = go (name_among? x names)
    where
      go : Dec (Among x names) → Among (x, v) (final_values M names st)
      go (no n) = absurd (nn (λ h. n (name_in_finals M LW st x v names h)))
      go (yes h) = subst (λ w. Among (x, w) (final_values M names st)) (sym (LW.stable v (M.get st x) (λ other. nn (λ g. other (value_in_finals M LW names st x v g))))) (in_finals M LW x st names h)

  no_init : (x : List ℕ) → ¬ ((y : List ℕ) × (Final x ≡ Init y))
  no_init x (y, e) = absurd cc

  -- the slice of a final variable that a program ends with
  at_final : (p : Tree) (x : List ℕ) → (graph_of p).vertex (Final x) → (slice_at (graph_of p) (Final x)).vertex (Final x)
  at_final p x is = (is, (Final x, [], refl, refl))

  module _ (base m : Tree) (ib : IsProgram base) (im : IsProgram m) (whole : Graph) (fits : Fits whole m) where
    -- a final value of a program whose slice m has
    carried_over : (p : Tree) (ip : IsProgram p) (s : M.State) (n N : ℕ) (g f' : FinalValues M) → Ends M p s n g → Ends M m s N f'
        → (x : List ℕ) (v : M.Value) → Same (slice_at whole (Final x)) (slice_at (graph_of p) (Final x)) → Contains g (x, v) → Contains f' (x, v)
    carried_over p ip s n N g f' ep em x v same c =
        (same_finals M LW p m s n N (distinct_program p ip) (distinct_program m im) (λ z. z ≡ Final x) (in_program whole m fits (graph_of p) (Final x) same) g f' ep.0 em.0 ep.1 em.1 x v
        (at_final p x (final_name M LW p s n (distinct_program p ip) g ep.0 ep.1 x v c))).0 c

    -- a changed final is an affected point
    changed_is_affected : (p : Tree) (ip : IsProgram p) (s : M.State) (n n0 : ℕ) (g f0 : FinalValues M) → Ends M p s n g → Ends M base s n0 f0
        → (x : List ℕ) (v : M.Value) → Contains g (x, v) → ¬ Contains f0 (x, v) → IsAffected (graph_of p) (graph_of base) (Final x)
    changed_is_affected p ip s n n0 g f0 ep e0 x v c no_c =
        let is = final_name M LW p s n (distinct_program p ip) g ep.0 ep.1 x v c in (
          is,
          λ (in0, same). no_c ((same_finals M LW p base s n n0 (distinct_program p ip) (distinct_program base ib) (λ z. z ≡ Final x) same g f0 ep.0 e0.0 ep.1 e0.1 x v (at_final p x is)).0 c),
        )

    module _ (s : M.State) (n0 N : ℕ) (f0 f : FinalValues M) (e0 : Ends M base s n0 f0) (em : Ends M m s N f) where
      changed_kept : (rs : List (Finished M)) → AllByRecursion IsProgram (programs_of M rs) → AllByRecursion (DoesFinish M s) rs
          → KeepsIn whole (graph_of base) (graphs_of (programs_of M rs)) → AllByRecursion (HasChanged M f0 f) rs
      changed_kept [] programs ended keeps = tt
      changed_kept (r ∷ rs) programs ended keeps = (
        λ x v c gone. carried_over r.program programs.0 s r.steps N r.finals f ended.0 em x v
            (keeps zero (Final x) (changed_is_affected r.program programs.0 s r.steps n0 r.finals f0 ended.0 e0 x v c gone)) c,
        changed_kept rs programs.1 ended.1 (λ i. keeps (suc i)),
      )

      -- what base and all have: unless some variant changed its slice, so that it is that one's, it is base's
      module _ (x : List ℕ) (v : M.Value) (out : ¬ Contains f (x, v)) where
        one_shares : (r : Finished M) → IsProgram r.program → DoesFinish M s r
            → (IsAffected (graph_of r.program) (graph_of base) (Final x) → Same (slice_at whole (Final x)) (slice_at (graph_of r.program) (Final x)))
            → Contains r.finals (x, v) → ¬ (¬ IsShared (graph_of base) (graph_of r.program) (Final x))
        one_shares r ip ended keeps has unshared =
            let is = final_name M LW r.program s r.steps (distinct_program r.program ip) r.finals ended.0 ended.1 x v has in
            out (carried_over r.program ip s r.steps N r.finals f ended em x v
            (keeps (is, λ (in0, e). unshared (is, same_turned (slice_at (graph_of r.program) (Final x)) (slice_at (graph_of base) (Final x)) e))) has)

        share : (rs : List (Finished M)) → AllByRecursion IsProgram (programs_of M rs) → AllByRecursion (DoesFinish M s) rs
            → KeepsIn whole (graph_of base) (graphs_of (programs_of M rs)) → AllByRecursion (HasValue M x v) rs
            → ¬ (¬ AllShare (graph_of base) (graphs_of (programs_of M rs)) (Final x))
        share [] programs ended keeps has unshared = unshared tt
        share (r ∷ []) programs ended keeps has unshared = one_shares r programs.0 ended.0 (keeps zero (Final x)) has.0 unshared
        share (r ∷ q ∷ rs) programs ended keeps has unshared =
            one_shares r programs.0 ended.0 (keeps zero (Final x)) has.0 (λ first.
            share (q ∷ rs) programs.1 ended.1 (λ i. keeps (suc i)) has.1 (λ rest. unshared (first, rest)))

  module _ (base m : Tree) (rs : List (Finished M)) (ib : IsProgram base) (all : AllByRecursion IsProgram (programs_of M rs)) (im : IsProgram m)
      (fits : Fits (merged_of_all base (programs_of M rs)) m) (keeps : KeepsEach base (programs_of M rs)) (s : M.State) (n0 : ℕ) (f0 : FinalValues M)
      (e0 : Ends M base s n0 f0) (ended : AllByRecursion (DoesFinish M s) rs) where
    abbrev N : ℕ
    N = n0 + steps_in M rs

    abbrev Whole : Graph
    Whole = merged_of_all base (programs_of M rs)

    agreed : (f : FinalValues M) → Ends M m s N f → (x : List ℕ) (v : M.Value) → Contains f0 (x, v) → AllByRecursion (HasValue M x v) rs → Contains f (x, v)
    agreed f em x v c0 cs = subst (λ l. Contains l (x, v)) (sym is_finals) (contains_among (x, v) _ (stable_finals m.finals (final_state M LW m s N (distinct_program m im)) x v (λ out. missing (λ c. out (among_contains (x, v) _ (subst (λ l. Contains l (x, v)) is_finals c))))))
      where
        is : (graph_of base).vertex (Final x)
        is = final_name M LW base s n0 (distinct_program base ib) f0 e0.0 e0.1 x v c0

        is_finals : f ≡ final_values M m.finals (final_state M LW m s N (distinct_program m im))
        is_finals = finals_are M LW m s N (distinct_program m im) f em.0 em.1

        missing : ¬ (¬ Contains f (x, v))
        missing out =
            share base m ib im Whole fits s n0 N f0 f e0 em x v out rs all ended keeps cs (λ shared.
            out (carried_over base m ib im Whole fits base ib s n0 N f0 f e0 em x v (keeps_preserved base (programs_of M rs) ib all (Final x) (no_init x, is, shared)) c0))

    pub kept_at : (f : FinalValues M) × Ends M m s N f × IsKeptOf M f0 rs f
    kept_at =
        let g = merged_ends M LW base m rs ib all im fits keeps s n0 f0 e0 ended in
        (g.0, g.1, record { changed = changed_kept base m ib im Whole fits s n0 N f0 g.0 e0 g.1 rs all ended keeps; agreed = agreed g.0 g.1 })

  pub meaning_kept : (base m : Tree) (vs : List Tree) → IsProgram base → AllByRecursion IsProgram vs → IsProgram m → Fits (merged_of_all base vs) m → KeepsEach base vs → KeepsAll M base vs m
  meaning_kept base m vs ib all im fits keeps s n0 f0 rs same e0 ended = go vs same all fits keeps
    where
      go : (us : List Tree) → programs_of M rs ≡ us → AllByRecursion IsProgram us → Fits (merged_of_all base us) m → KeepsEach base us
          → (f : FinalValues M) × Ends M m s (n0 + steps_in M rs) f × IsKeptOf M f0 rs f
      go us e a f k =
          kept_at base m rs ib (subst (λ ts. AllByRecursion IsProgram ts) (sym e) a) im (subst (λ ts. Fits (merged_of_all base ts) m) (sym e) f)
          (subst (λ ts. KeepsEach base ts) (sym e) k) s n0 f0 e0 ended

  -- what keeps the meaning of both of two keeps it in the words of two
  pub keeps_two : (base a b m : Tree) → KeepsAll M base (a ∷ b ∷ []) m → Keeps M base a b m
  keeps_two base a b m keeps s n0 n1 n2 f0 f1 f2 e0 e1 e2 =
      let of_a : Finished M = record { program = a; steps = n1; finals = f1 } in
      let of_b : Finished M = record { program = b; steps = n2; finals = f2 } in
      let (f, ended, kept) = keeps s n0 f0 (of_a ∷ of_b ∷ []) refl e0 (e1, (e2, tt)) in
      let sum : n0 + (n1 + (n2 + 0)) ≡ n0 + n1 + n2 = omega arith in (
        f,
        subst (λ n. Ends M m s n f) sum ended,
        record { changed_by_a = kept.changed.0; changed_by_b = kept.changed.1.0; agreed = λ x v c0 c1 c2. kept.agreed x v c0 (c1, (c2, tt)) },
      )
