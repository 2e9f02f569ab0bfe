-- What a reply tells: its status is that of a decision, and a merged program keeps the meaning of all variants.
use Rattle.std.proofs.Common.{◌≡◌, ◌≢◌, ℕ, List, [], ◌∷◌, Option, Some, None, refl, sym, ap, ◌∙◌, subst, inl, inr}
use Rattle.hpr_io.specs.Files.{Files, lookup}
use Rattle.hpr_syntax.specs.Print.{text}
use Rattle.hpr_syntax.specs.Tree.{Tree}
use Rattle.hpr_graph.specs.Answer.{interference, no_program, printed, spent}
use Rattle.hpr_words.specs.Request.{Request, Text, integrate, integrate_many, sample, trial}
use Rattle.hpr_inputs.specs.Decision.{prints}
use Rattle.hpr_inputs.specs.declared.answer.Kind.TheVariants as kind
use Rattle.hpr_decisions.specs.Outcome.{RequestOutcome}
use Rattle.hpr_decisions.specs.Statuses.{DoesIntegrate}
use Rattle.hpr_decisions.specs.declared.status.Status.{Status}
use Rattle.hpr_decisions.specs.declared.status.Status.TheVariants.{Done, ReadFault, Words}
use Rattle.hpr_decisions.proofs.Theorem.{request_keeps, request_keeps_all}
use Rattle.hpr_json.specs.Answers.{json_line}
use Rattle.hpr_data.specs.Findings.{Answers, Finding, Finds, Integrated, Integrates, OnAllEdges, OnAllTexts, OnBytes, absent, affects, conflicting, finding_of, graphed, judged, merged, no_call, over_budget, ran, refused, too_large, unmatched, word_refused}
use Rattle.hpr_data.specs.Printed.{Agrees, IsPrinted}
use Rattle.hpr_data.specs.Told.{IsReply, Tells, TellsKept, data_of, status_of}
use Rattle.hpr_data.specs.declared.reply.Reply.{Reply}
use Rattle.hpr_data.proofs.DecidedLemmas.{found_is_decided, printed_status}

-- it is neither points nor a graph nor a verdict nor a run
abbrev IsOfMerge : Finding → Type 0
IsOfMerge (affects vs) = ⊥
IsOfMerge (graphed vs es) = ⊥
IsOfMerge (judged v) = ⊥
IsOfMerge (ran o) = ⊥
IsOfMerge _ = Unit {0}

module _ (f : Finding) where
  same_as : (g : Finding) → IsOfMerge g → f ≡ g → IsOfMerge f
  same_as g is e = subst IsOfMerge (sym e) is

  of_bytes : (told : Option (List ℕ)) (file : Text) (next : Tree → Type 0) → ((p : Tree) → next p → IsOfMerge f) → OnBytes told file next f → IsOfMerge f
  of_bytes None file next behind e = same_as (absent file) tt e
  of_bytes (Some bytes) file next behind (inl (why, cause, e)) = same_as (refused file why) tt e
  of_bytes (Some bytes) file next behind (inr (p, is, h)) = behind p h

  of_all_texts : (files : Files) (names : List Text) (next : List Tree → Type 0) → ((ps : List Tree) → next ps → IsOfMerge f) → OnAllTexts files names next f → IsOfMerge f
  of_all_texts files [] next behind h = behind [] h
  of_all_texts files (file ∷ names) next behind h =
      of_bytes (lookup files file) file (λ p. OnAllTexts files names (λ ps. next (p ∷ ps)) f) (λ p k. of_all_texts files names (λ ps. next (p ∷ ps)) (λ ps l. behind (p ∷ ps) l) k) h

  of_all_edges : (names : List Text) (ps : List Tree) (next : Type 0) → (next → IsOfMerge f) → OnAllEdges names ps next f → IsOfMerge f
  of_all_edges [] ps next behind h = behind h
  of_all_edges (file ∷ names) [] next behind h = behind h
  of_all_edges (file ∷ names) (p ∷ ps) next behind (inl (many, e)) = same_as (too_large file) tt e
  of_all_edges (file ∷ names) (p ∷ ps) next behind (inr (few, h)) = of_all_edges names ps next behind h

  of_answer : (p : Tree) (ps : List Tree) (tries : ℕ) → Answers p ps tries f → IsOfMerge f
  of_answer p ps tries (interference cs, answer, e) = same_as (finding_of tries (interference cs)) tt e
  of_answer p ps tries (printed m, answer, e) = same_as (merged m) tt e
  of_answer p ps tries (no_program n, answer, e) = same_as (unmatched n) tt e
  of_answer p ps tries (spent, answer, e) = same_as (over_budget tries) tt e

  of_integration : (files : Files) (base : Text) (names : List Text) (tries : ℕ) → Integrates files base names tries f → IsOfMerge f
  of_integration files base names tries h =
      of_bytes (lookup files base) base (λ p. OnAllTexts files names (λ ps. Integrated base p names ps tries f) f)
      (λ p k. of_all_texts files names (λ ps. Integrated base p names ps tries f) (λ ps l. of_all_edges (base ∷ names) (p ∷ ps) _ (of_answer p ps tries) l) k) h

  of_request : (request : Request) (files : Files) → DoesIntegrate request → Finds (Some request) files f → IsOfMerge f
  of_request (integrate base a b tries) files does h = of_integration files base (a ∷ b ∷ []) tries h
  of_request (integrate_many base names tries) files does h = of_integration files base names tries h
  of_request (trial base a b words steps) files does h = same_as no_call tt h
  of_request (sample seed parts) files does h = same_as no_call tt h
  of_request _ files does h = absurd does

-- where it is done, it is a merged program
done_merged : (f : Finding) → IsOfMerge f → status_of f ≡ Done → (m : Tree) × (f ≡ merged m)
done_merged no_call is e = absurd cc
done_merged (word_refused message) is e = absurd cc
done_merged (absent file) is e = absurd cc
done_merged (refused file why) is e = absurd cc
done_merged (too_large file) is e = absurd cc
done_merged (merged m) is e = (m, refl)
done_merged (conflicting cs) is e = absurd cc
done_merged (unmatched n) is e = absurd cc
done_merged (over_budget tries) is e = absurd cc
done_merged (affects vs) is e = absurd is
done_merged (graphed vs es) is e = absurd is
done_merged (judged v) is e = absurd is
done_merged (ran o) is e = absurd is

module _ (request : Request) (files : Files) (reply : Reply) (does : DoesIntegrate request) (done : reply.status ≡ Done) where
  not_other : (f : Finding) → Tells f reply → (s : Status) → (Done ≡ s → ⊥) → status_of f ≢ s
  not_other f told s differs e = differs (sym done ∙ told.0 ∙ e)

  kept : (f : Finding) → Finds (Some request) files f → Tells f reply → TellsKept request files reply.text.items
  kept f h told =
      let (m, is) = done_merged f (of_request f request files does h) (sym told.0 ∙ done) in
      let (r, outcome, shown) = found_is_decided request files f h (not_other f told Words (λ e. cc)) (not_other f told ReadFault (λ e. cc)) in
      let same : r ≡ prints kind.Done (text m) = subst (λ (g : Finding). IsPrinted request g r) is shown in
      let prints_it : RequestOutcome request files (prints kind.Done (text m)) = subst (RequestOutcome request files) same outcome in
      (text m, told.1 ∙ ap (λ (g : Finding). json_line (data_of g)) is, request_keeps request files (text m) prints_it, request_keeps_all request files (text m) prints_it)

module _ (request : Request) (files : Files) (reply : Reply) (f : Finding) (h : Finds (Some request) files f) (told : Tells f reply) where
  agreed : reply.status ≢ Words → reply.status ≢ ReadFault → Agrees request files reply.status
  agreed words there =
      let (r, outcome, shown) = found_is_decided request files f h (λ e. words (told.0 ∙ e)) (λ e. there (told.0 ∙ e)) in
      (r, outcome, told.0 ∙ printed_status request f r shown)

-- the same of whatever the words are taken as
module _ (asked : Option Request) (fs : Files) (reply : Reply) (is_reply : IsReply asked fs reply) (request : Request) (files : Files) (is : asked ≡ Some request) (same : Some fs ≡ Some files) where
  found_for : (f : Finding) → Finds asked fs f → Finds (Some request) files f
  found_for f h = let e : fs ≡ files = cc in subst (λ (o : Option Request). Finds o files f) is (subst (λ (gs : Files). Finds asked gs f) e h)

  pub reply_kept : DoesIntegrate request → reply.status ≡ Done → TellsKept request files reply.text.items
  reply_kept does done = kept request files reply does done is_reply.0 (found_for is_reply.0 is_reply.1) is_reply.2

  pub reply_agrees : reply.status ≢ Words → reply.status ≢ ReadFault → Agrees request files reply.status
  reply_agrees = agreed request files reply is_reply.0 (found_for is_reply.0 is_reply.1) is_reply.2
