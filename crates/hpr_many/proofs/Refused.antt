-- What a merge of many variants refuses.
use Rattle.std.proofs.Common.{◌≡◌, ◌≢◌, ◌∷◌, ◌∙◌, ℕ, List, [], ap, map, refl, subst, sym, Result, Ok, Err, IsErrOf}
use Rattle.std.specs.Result.{IsErrAnd}
use Rattle.std.proofs.lemmas.Result.{err_from_is_err_and}
use Rattle.hpr_graph.specs.declared.conflict.ManyConflict.{ManyConflict}
use Rattle.hpr_graph.specs.declared.edge.Edge.{Edge}
use Rattle.hpr_graph.specs.declared.vertex.Vertex.{Vertex}
use Rattle.hpr_graph.specs.Conflicts.{AreConflictsBy, told_many}
use Rattle.hpr_graph.specs.Graphs.{Graph}
use Rattle.hpr_many.specs.Answers.{IfManyInterference, IfManyJudged, IfManyNoProgram, IfManyTooManyEdges, IsManyUnsearched}
use Rattle.hpr_many.specs.declared.stop.ManyStop.{ManyStop}
use Rattle.hpr_many.specs.declared.stop.ManyStop.TheVariants.{TooManyEdges, Interference, NoProgram, Spent, Memory}

told_some : (cs : List ManyConflict) → cs ≢ [] → ¬ (map told_many cs ≡ [])
told_some [] some is = some refl
told_some (c ∷ cs) some is = absurd cc

-- an error that is passed on
module _ (X Y : Type 0) where
  pub too_many_passed : (e : ManyStop) (P Q : ℕ → Type 0) → ((n : ℕ) → P n → Q n) → IfManyTooManyEdges {X = X} (Err e) P → IfManyTooManyEdges {X = Y} (Err e) Q
  too_many_passed (TooManyEdges n) P Q f h = f n h
  too_many_passed (Interference cs) P Q f h = tt
  too_many_passed (NoProgram n) P Q f h = tt
  too_many_passed Spent P Q f h = tt
  too_many_passed Memory P Q f h = tt

  pub judged_passed : (e : ManyStop) (P : Type 0) → IfManyJudged {X = X} (Err e) P → IfManyJudged {X = Y} (Err e) P
  judged_passed (TooManyEdges n) P h = tt
  judged_passed (Interference cs) P h = h
  judged_passed (NoProgram n) P h = h
  judged_passed Spent P h = h
  judged_passed Memory P h = tt

  pub interference_passed : (e : ManyStop) (P : List ManyConflict → Type 0) → IfManyInterference {X = X} (Err e) P → IfManyInterference {X = Y} (Err e) P
  interference_passed (TooManyEdges n) P h = tt
  interference_passed (Interference cs) P h = h
  interference_passed (NoProgram n) P h = tt
  interference_passed Spent P h = tt
  interference_passed Memory P h = tt

  -- conflicts that are passed on, of which there is one
  pub interference_told : (e : ManyStop) (P : List (ℕ × Vertex × Edge) → Type 0) → IfManyInterference {X = X} (Err e) (λ cs. P (map told_many cs)) → IfManyInterference {X = X} (Err e) (λ cs. cs ≢ [])
      → IfManyInterference {X = Y} (Err e) (λ cs. P (map told_many cs) × ¬ (map told_many cs ≡ []))
  interference_told (TooManyEdges n) P are some = tt
  interference_told (Interference cs) P are some = (are, told_some cs.items some)
  interference_told (NoProgram n) P are some = tt
  interference_told Spent P are some = tt
  interference_told Memory P are some = tt

-- a refusal before the search names no program and isn't that of spent tries
module _ (Y : Type 0) where
  pub never_no_program : (e : ManyStop) (P : ℕ → Type 0) → IsManyUnsearched e → IfManyNoProgram {X = Y} (Err e) P
  never_no_program (TooManyEdges n) P h = tt
  never_no_program (Interference cs) P h = tt
  never_no_program (NoProgram n) P h = absurd h
  never_no_program Spent P h = tt
  never_no_program Memory P h = tt

  pub never_spent : (e : ManyStop) → IsManyUnsearched e → ¬ IsErrOf {T = Y} {E = ManyStop} (Err e) Spent
  never_spent (TooManyEdges n) h is = absurd cc
  never_spent (Interference cs) h is = absurd cc
  never_spent (NoProgram n) h is = absurd h
  never_spent Spent h is = absurd h
  never_spent Memory h is = absurd cc

module _ (X : Type 0) where
  pub judged_always : (r : Result X ManyStop) (P : Type 0) → P → IfManyJudged r P
  judged_always (Ok x) P p = p
  judged_always (Err (TooManyEdges n)) P p = tt
  judged_always (Err (Interference cs)) P p = p
  judged_always (Err (NoProgram n)) P p = p
  judged_always (Err Spent) P p = p
  judged_always (Err Memory) P p = tt

  pub never_too_many : (r : Result X ManyStop) (P : ℕ → Type 0) → IfManyTooManyEdges r (λ _. ⊥) → IfManyTooManyEdges r P
  never_too_many (Ok x) P h = tt
  never_too_many (Err (TooManyEdges n)) P h = absurd h
  never_too_many (Err (Interference cs)) P h = tt
  never_too_many (Err (NoProgram n)) P h = tt
  never_too_many (Err Spent) P h = tt
  never_too_many (Err Memory) P h = tt

  pub interference_weaker : (r : Result X ManyStop) (P Q : List ManyConflict → Type 0) → ((cs : List ManyConflict) → P cs → Q cs) → IfManyInterference r P → IfManyInterference r Q
  interference_weaker (Ok x) P Q f h = tt
  interference_weaker (Err (TooManyEdges n)) P Q f h = tt
  interference_weaker (Err (Interference cs)) P Q f h = f cs.items h
  interference_weaker (Err (NoProgram n)) P Q f h = tt
  interference_weaker (Err Spent) P Q f h = tt
  interference_weaker (Err Memory) P Q f h = tt

-- what is so of a result that is the refusal e
module _ (Y : Type 0) (r : Result Y ManyStop) (e : ManyStop) (is : IsErrAnd r (λ y. y ≡ e)) where
  pub at_refusal : (P : Result Y ManyStop → Type 0) → P (Err e) → P r
  at_refusal P p = let (y, err, same) = err_from_is_err_and r is in subst P (sym (err ∙ ap (λ (z : ManyStop). Err z) same)) p

  pub no_program_named : (P : ℕ → Type 0) → IsManyUnsearched e → IfManyNoProgram r P
  no_program_named P h = at_refusal (λ s. IfManyNoProgram s P) (never_no_program Y e P h)

  pub unspent : IsManyUnsearched e → ¬ IsErrOf {T = Y} {E = ManyStop} r Spent
  unspent h = at_refusal (λ s. ¬ IsErrOf {T = Y} {E = ManyStop} s Spent) (never_spent Y e h)

-- what was searched, with tries left
module _ (Y : Type 0) where
  pub program_unspent : (x : Y) → ¬ IsErrOf {T = Y} {E = ManyStop} (Ok x) Spent
  program_unspent x is = absurd cc

  pub no_program_unspent : (n : ℕ) → ¬ IsErrOf {T = Y} {E = ManyStop} (Err (NoProgram n)) Spent
  no_program_unspent n is = absurd cc

-- where no conflict is listed, none is told
pub none_told : (base : Graph) (gs : List Graph) (cs : List ManyConflict) → cs ≡ [] → AreConflictsBy {X = ℕ × Vertex × Edge} (λ t. t) base gs (map told_many cs) → AreConflictsBy {X = ℕ × Vertex × Edge} (λ t. t) base gs []
none_told base gs cs none are = subst (λ (ds : List ManyConflict). AreConflictsBy {X = ℕ × Vertex × Edge} (λ t. t) base gs (map told_many ds)) none are
