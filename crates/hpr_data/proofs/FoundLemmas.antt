-- What hpr decides on a request comes of it.
use Rattle.std.proofs.Common.{◌≡◌, ℕ, ◌<◌, Bool, true, false, All, List, [], ◌∷◌, Contains, map, slice_get, Option, Some, None, IsSome, Ok, Err, Result, unwrap_or, refl, sym, ap, ◌∙◌, inl, inr, subst}
use Rattle.std.proofs.lemmas.List.Elements.{All-head, All-tail}
use Rattle.hpr_terms.proofs.Facts.{get_map, in_map, map_in}
use Rattle.hpr_io.specs.Files.{Files, lookup}
use Rattle.hpr_syntax.specs.Run as means
use Rattle.hpr_syntax.specs.Tree.{Tree}
use Rattle.hpr_syntax.specs.Values.{Values}
use Rattle.hpr_graph.specs.declared.conflict.Conflict.{Conflict}
use Rattle.hpr_graph.specs.declared.conflict.ManyConflict.{ManyConflict}
use Rattle.hpr_graph.specs.Answer.{interference, no_program, printed, spent}
use Rattle.hpr_graph.specs.Conflicts.{AreConflictsBy, ComesFirst, IsConflictOf, told_as}
use Rattle.hpr_graph.specs.Graphs.{Graph}
use Rattle.hpr_graph.specs.Points.{IsAffected}
use Rattle.hpr_graph.specs.ProgramGraph.{graph_of}
use Rattle.hpr_merge.proofs.NoneListed.{number_within, sides_tell}
use Rattle.hpr_refusals.specs.Refusals.{IsFileOf, IsRefused}
use Rattle.hpr_report.specs.AffectedText.{IsAffectedText}
use Rattle.hpr_report.specs.ConflictsText.{conflicts_text}
use Rattle.hpr_words.specs.Request.{Request, Text, integrate, integrate_many, run, graph, affected, verify}
use Rattle.hpr_inputs.specs.Decision.{Decision, OnRead, Prints, prints, refuses}
use Rattle.hpr_inputs.specs.Files.{OnAllFiles, OnFile}
use Rattle.hpr_inputs.specs.States.{OnState, RefusedWord, refused_word_text, states_of}
use Rattle.hpr_inputs.specs.declared.answer.Kind.TheVariants as kind
use Rattle.hpr_decisions.specs.AffectedFiles.{AffectedPoints}
use Rattle.hpr_decisions.specs.GraphFile.{Graphed, IsShown}
use Rattle.hpr_decisions.specs.Graphs.{OnAllGraphs, OnGraph}
use Rattle.hpr_decisions.specs.Integrate.{IntegratedBy, IsReported}
use Rattle.hpr_decisions.specs.IntegrateMany.{IntegratedMany, IsReportedOfMany, Told, conflict_of, told_text}
use Rattle.hpr_decisions.specs.RunFile.{Ran, kind_of}
use Rattle.hpr_data.specs.Findings.{AffectedBetween, AffectsPoints, Answers, Finding, Integrated, IsGraphed, IsJudgedOf, OnAllEdges, OnAllTexts, OnBytes, OnEdges, OnText, OnWords, Verified, affects, conflicting, graphed, judged, merged, over_budget, ran, refused, too_large, unmatched, word_refused}
use Rattle.hpr_data.specs.Printed.{DecidedIsFound, IsPrinted, numbered}
use Rattle.hpr_data.proofs.DecidedLemmas.{IsVerifiedOf, front_of}

abbrev IsThere : Files → Text → Type 0
IsThere files file = IsSome (lookup files file)

module _ (request : Request) (r : Decision) where
  -- some finding that the decision is on
  abbrev IsFound : (Finding → Type 0) → Type 0
  IsFound P = (f : Finding) × P f × IsPrinted request f r

  of_bytes : (told : Option (List ℕ)) (file : Text) (next : Tree → Type 0) (finds : Tree → Finding → Type 0) → ((p : Tree) → next p → IsFound (finds p)) → IsSome told
      → OnRead (IsRefused file (unwrap_or told [])) (IsFileOf (unwrap_or told [])) next r → IsFound (λ f. OnBytes told file (λ p. finds p f) f)
  of_bytes None file next finds behind there h = absurd cc
  of_bytes (Some bytes) file next finds behind there (inl (message, (why, cause, is), e)) = (refused file why, inl (why, cause, refl), e ∙ ap refuses is)
  of_bytes (Some bytes) file next finds behind there (inr (p, is, h)) = let (f, k, shown) = behind p h in (f, inr (p, is, k), shown)

  of_file : (files : Files) (file : Text) (next : Tree → Type 0) (finds : Tree → Finding → Type 0) → ((p : Tree) → next p → IsFound (finds p)) → IsThere files file
      → OnFile files file next r → IsFound (λ f. OnText files file (λ p. finds p f) f)
  of_file files file next finds behind there h = of_bytes (lookup files file) file next finds behind there h

  of_all_files : (files : Files) (names : List Text) (next : List Tree → Type 0) (finds : List Tree → Finding → Type 0) → ((ps : List Tree) → next ps → IsFound (finds ps)) → All (IsThere files) names
      → OnAllFiles files names next r → IsFound (λ f. OnAllTexts files names (λ ps. finds ps f) f)
  of_all_files files [] next finds behind there h = behind [] h
  of_all_files files (file ∷ names) next finds behind there h =
      of_file files file (λ p. OnAllFiles files names (λ ps. next (p ∷ ps)) r) (λ p f. OnAllTexts files names (λ ps. finds (p ∷ ps) f) f)
      (λ p k. of_all_files files names (λ ps. next (p ∷ ps)) (λ ps f. finds (p ∷ ps) f) (λ ps l. behind (p ∷ ps) l) (All-tail (IsThere files) file names there) k)
      (All-head (IsThere files) file names there) h

  of_graph : (file : Text) (p : Tree) (next : Type 0) (finds : Finding → Type 0) → (next → IsFound finds) → OnGraph file p next r → IsFound (λ f. OnEdges file p (finds f) f)
  of_graph file p next finds behind (inl (many, e)) = (too_large file, inl (many, refl), e)
  of_graph file p next finds behind (inr (few, h)) = let (f, k, shown) = behind h in (f, inr (few, k), shown)

  of_all_graphs : (names : List Text) (ps : List Tree) (next : Type 0) (finds : Finding → Type 0) → (next → IsFound finds) → OnAllGraphs names ps next r
      → IsFound (λ f. OnAllEdges names ps (finds f) f)
  of_all_graphs [] ps next finds behind h = behind h
  of_all_graphs (file ∷ names) [] next finds behind h = behind h
  of_all_graphs (file ∷ names) (p ∷ ps) next finds behind h =
      of_graph file p (OnAllGraphs names ps next r) (λ f. OnAllEdges names ps (finds f) f) (λ k. of_all_graphs names ps next finds behind k) h

  of_state : (told : Result Values RefusedWord) (next : Values → Type 0) (finds : Values → Finding → Type 0) → ((state : Values) → next state → IsFound (finds state)) → OnState told next r
      → IsFound (λ f. OnWords told (λ state. finds state f) f)
  of_state (Ok state) next finds behind h = behind state h
  of_state (Err word) next finds behind e = (word_refused (refused_word_text word), refl, e)

  points_found : (p q : Tree) → Prints (IsAffectedText (IsAffected (graph_of q) (graph_of p))) r → IsFound (AffectsPoints p q)
  points_found p q (shown, (vs, are, is), e) = (affects vs, (vs, are, refl), e ∙ ap (prints kind.Done) is)

  run_found : (p : Tree) (state : Values) (steps : ℕ) (trace : Bool) → Ran p state steps trace r → IsFound (λ f. f ≡ ran (means.run p state steps))
  run_found p state steps trace e =
      let o = means.run p state steps in
      let (front, is) = front_of p state steps trace in
      (ran o, refl, (front, e ∙ ap (prints (kind_of o)) is))

-- a graph, as JSON or as text
graph_found : (file : Text) (json : Bool) (r : Decision) (p : Tree) → Prints (IsShown json (graph_of p)) r → IsFound (graph file json) r (IsGraphed p)
graph_found file true r p (shown, (vs, es, are, edges, is), e) = (graphed vs es, (vs, es, are, edges, refl), (shown, is, e))
graph_found file false r p (shown, (vs, es, are, edges, is), e) = (graphed vs es, (vs, es, are, edges, refl), (shown, is, e))

-- a verdict on the last of four programs
judged_found : (base a b offered : Text) (r : Decision) (ps : List Tree) → IsVerifiedOf ps r → IsFound (verify base a b offered) r (IsJudgedOf ps)
judged_found base a b offered r [] h = absurd h
judged_found base a b offered r (p ∷ []) h = absurd h
judged_found base a b offered r (p ∷ q ∷ []) h = absurd h
judged_found base a b offered r (p ∷ q ∷ s ∷ []) h = absurd h
judged_found base a b offered r (p ∷ q ∷ s ∷ o ∷ []) (v, is, e) = (judged v, (v, is, refl), e)
judged_found base a b offered r (p ∷ q ∷ s ∷ o ∷ x ∷ rest) h = absurd h

-- the answer of many variants
many_found : (base : Text) (names : List Text) (within : ℕ) (r : Decision) (p : Tree) (ps : List Tree) (tries : ℕ) → IsReportedOfMany p ps tries r
    → IsFound (integrate_many base names within) r (Answers p ps tries)
many_found base names within r p ps tries (interference cs, answer, e) = (conflicting (map conflict_of cs), (interference cs, answer, refl), (told_text cs, refl, e))
many_found base names within r p ps tries (printed m, answer, e) = (merged m, (printed m, answer, refl), e)
many_found base names within r p ps tries (no_program n, answer, e) = (unmatched n, (no_program n, answer, refl), e)
many_found base names within r p ps tries (spent, answer, e) = (over_budget tries, (spent, answer, refl), e)

-- the conflicts of two variants by their sides are those by their numbers
all_told : (ds : List Conflict) → map conflict_of (map told_as ds) ≡ map numbered ds
all_told [] = refl
all_told (d ∷ ds) = ap (λ (cs : List ManyConflict). numbered d ∷ cs) (all_told ds)

module _ (base a b : Graph) (ds : List Conflict) (are : AreConflictsBy told_as base (a ∷ b ∷ []) ds) where
  abbrev Is : Told → Type 0
  Is t = IsConflictOf base (a ∷ b ∷ []) t.0 t.1 t.2

  of_number : (t : Told) → Contains (map told_as ds) t → Is t
  of_number t there = let (c, has, same) = map_in told_as ds t there in subst Is same ((are.0 c).0 has)

  number_of : (t : Told) → Is t → Contains (map told_as ds) t
  number_of t is =
      let (c, same) = sides_tell t.0 t.1 t.2 (number_within (a ∷ b ∷ []) t.0 t.1 is.0.0.0) in
      subst (Contains (map told_as ds)) same (in_map told_as ds c ((are.0 c).1 (subst Is (sym same) is)))

  in_order : (i j : ℕ) (t u : Told) → i < j → slice_get (map told_as ds) i ≡ Some t → slice_get (map told_as ds) j ≡ Some u → ComesFirst t.0 t.1 u.0 u.1
  in_order i j t u less at_i at_j =
      let (c, c_at, c_is) = get_map told_as ds i t at_i in
      let (d, d_at, d_is) = get_map told_as ds j u at_j in
      subst (λ (w : Told). ComesFirst t.0 t.1 w.0 w.1) d_is
      (subst (λ (v : Told). ComesFirst v.0 v.1 (told_as d).0 (told_as d).1) c_is (are.1 i j c d less c_at d_at))

  by_numbers : AreConflictsBy {X = Told} (λ t. t) base (a ∷ b ∷ []) (map told_as ds)
  by_numbers = (λ t. (of_number t, number_of t), in_order)

some_numbers : (ds : List Conflict) → (ds ≡ [] → ⊥) → map told_as ds ≡ [] → ⊥
some_numbers [] some e = some refl
some_numbers (d ∷ ds) some e = cc

module _ (base a b : Text) (within : ℕ) (r : Decision) (p q s : Tree) (tries : ℕ) where
  free_numbers : AreConflictsBy told_as (graph_of p) (graph_of q ∷ graph_of s ∷ []) [] → AreConflictsBy {X = Told} (λ t. t) (graph_of p) (graph_of q ∷ graph_of s ∷ []) []
  free_numbers are = by_numbers (graph_of p) (graph_of q) (graph_of s) [] are

  two_found : IsReported p q s tries r → IsFound (integrate base a b within) r (Answers p (q ∷ s ∷ []) tries)
  two_found (interference ds, answer, e) =
      let ts = map told_as ds in
      let numbers = by_numbers (graph_of p) (graph_of q) (graph_of s) ds answer.0 in
      (conflicting (map conflict_of ts), (interference ts, (numbers, some_numbers ds answer.1), refl), (conflicts_text ds, (ds, all_told ds, refl), e))
  two_found (printed m, answer, e) = (merged m, (printed m, (free_numbers answer.0, answer.1), refl), e)
  two_found (no_program n, answer, e) = (unmatched n, (no_program n, (free_numbers answer.0, answer.1), refl), e)
  two_found (spent, answer, e) = (over_budget tries, (spent, (free_numbers answer.0, answer.1), refl), e)

pub decided_is_found : DecidedIsFound
decided_is_found (integrate base a b tries) files r has there o =
    let asked = integrate base a b tries in
    let first = All-head (IsThere files) base (a ∷ b ∷ []) there in
    let behind = All-tail (IsThere files) base (a ∷ b ∷ []) there in
    let second = All-head (IsThere files) a (b ∷ []) behind in
    let third = All-head (IsThere files) b [] (All-tail (IsThere files) a (b ∷ []) behind) in
    let Decides : Tree → Tree → Tree → Type 0 = λ p q s. IntegratedBy told_as conflicts_text base p (a ∷ b ∷ []) (q ∷ s ∷ []) tries r in
    let Finds : Tree → Tree → Tree → Finding → Type 0 = λ p q s f. Integrated base p (a ∷ b ∷ []) (q ∷ s ∷ []) tries f in
    of_file asked r files base (λ p. OnFile files a (λ q. OnFile files b (λ s. Decides p q s) r) r) (λ p f. OnText files a (λ q. OnText files b (λ s. Finds p q s f) f) f)
    (λ p. of_file asked r files a (λ q. OnFile files b (λ s. Decides p q s) r) (λ q f. OnText files b (λ s. Finds p q s f) f)
    (λ q. of_file asked r files b (λ s. Decides p q s) (λ s f. Finds p q s f)
    (λ s. of_all_graphs asked r (base ∷ a ∷ b ∷ []) (p ∷ q ∷ s ∷ []) (IsReported p q s tries r) (Answers p (q ∷ s ∷ []) tries) (two_found base a b tries r p q s tries)) third) second) first o
decided_is_found (integrate_many base names tries) files r has there o =
    let asked = integrate_many base names tries in
    of_file asked r files base (λ p. OnAllFiles files names (λ ps. IntegratedMany base p names ps tries r) r) (λ p f. OnAllTexts files names (λ ps. Integrated base p names ps tries f) f)
    (λ p. of_all_files asked r files names (λ ps. IntegratedMany base p names ps tries r) (λ ps f. Integrated base p names ps tries f)
    (λ ps. of_all_graphs asked r (base ∷ names) (p ∷ ps) (IsReportedOfMany p ps tries r) (Answers p ps tries) (many_found base names tries r p ps tries))
    (All-tail (IsThere files) base names there)) (All-head (IsThere files) base names there) o
decided_is_found (run file words steps trace) files r has there o =
    let asked = run file words steps trace in
    of_state asked r (states_of words) (λ state. OnFile files file (λ p. Ran p state steps trace r) r) (λ state f. OnText files file (λ p. f ≡ ran (means.run p state steps)) f)
    (λ state. of_file asked r files file (λ p. Ran p state steps trace r) (λ p f. f ≡ ran (means.run p state steps)) (λ p. run_found asked r p state steps trace)
    (All-head (IsThere files) file [] there)) o
decided_is_found (affected base a) files r has there o =
    let asked = affected base a in
    let first = All-head (IsThere files) base (a ∷ []) there in
    let second = All-head (IsThere files) a [] (All-tail (IsThere files) base (a ∷ []) there) in
    let Shown : Tree → Tree → Type 0 = λ p q. Prints (IsAffectedText (IsAffected (graph_of q) (graph_of p))) r in
    of_file asked r files base (λ p. OnFile files a (λ q. AffectedPoints base p a q r) r) (λ p f. OnText files a (λ q. AffectedBetween base p a q f) f)
    (λ p. of_file asked r files a (λ q. AffectedPoints base p a q r) (λ q f. AffectedBetween base p a q f)
    (λ q. of_graph asked r base p (OnGraph a q (Shown p q) r) (λ f. OnEdges a q (AffectsPoints p q f) f)
    (of_graph asked r a q (Shown p q) (AffectsPoints p q) (points_found asked r p q))) second) first o
decided_is_found (graph file json) files r has there o =
    let asked = graph file json in
    of_file asked r files file (λ p. Graphed file p json r) (λ p f. OnEdges file p (IsGraphed p f) f)
    (λ p. of_graph asked r file p (Prints (IsShown json (graph_of p)) r) (IsGraphed p) (graph_found file json r p)) (All-head (IsThere files) file [] there) o
decided_is_found (verify base a b offered) files r has there o =
    let asked = verify base a b offered in
    let names = base ∷ a ∷ b ∷ offered ∷ [] in
    of_all_files asked r files names (λ ps. OnAllGraphs names ps (IsVerifiedOf ps r) r) (λ ps f. Verified names ps f)
    (λ ps. of_all_graphs asked r names ps (IsVerifiedOf ps r) (IsJudgedOf ps) (judged_found base a b offered r ps)) there o
decided_is_found _ files r has there o = absurd has
