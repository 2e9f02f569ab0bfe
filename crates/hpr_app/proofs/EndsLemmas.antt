-- How a call ends, from what was decided and what was written.
use Rattle.std.proofs.Common.{◌≡◌, ◌<◌, ◌⊎◌, ℕ, List, [], refl, ap, sym, subst, ◌∙◌, inl, inr, arith, Option, Some, None, IfSome, Ok, Err, Result, string_bytes}
use Rattle.std.proofs.lemmas.List.{append-nil}
use Rattle.hpr_io.specs.Counts.{Rose}
use Rattle.hpr_io.specs.Files.{Files}
use Rattle.hpr_io.specs.Taken.{taken_then}
use Rattle.hpr_words.specs.Request.{Request}
use Rattle.hpr_inputs.specs.Decision.{Decision, prints, refuses, usage}
use Rattle.hpr_inputs.specs.Answer.{Decides, Merges}
use Rattle.hpr_app.specs.Private.Writes.{Writes, PutsAll, PutsPrefix}
use Rattle.hpr_decisions.specs.Ends.{Change, Decided, Ends, Says, status_of_kind, usage_text}
use Rattle.hpr_decisions.specs.Answered.{Answers, AnswersInKind}
use Rattle.hpr_decisions.specs.Outcome.{Outcome, OutcomeIfTold}
use Rattle.hpr_decisions.specs.Reads.{MayReadIfTaken}
use Rattle.hpr_decisions.specs.Statuses.{IsKindOf, IsStatusOf}
use Rattle.hpr_inputs.specs.declared.answer.Kind.{Kind}
use Rattle.hpr_inputs.specs.declared.answer.Kind.TheVariants as kind
use Rattle.hpr_inputs.specs.declared.answer.Report.{Report}
use Rattle.hpr_inputs.specs.declared.answer.Stop.{Stop}
use Rattle.hpr_inputs.specs.declared.answer.Stop.TheVariants as stop
use Rattle.hpr_decisions.specs.declared.status.Status.{Status}
use Rattle.hpr_decisions.specs.declared.status.Status.TheVariants as status

taken_nothing : (taken : Option (List ℕ)) → taken ≡ taken_then taken []
taken_nothing None = refl
taken_nothing (Some bytes) = ap Some (sym (append-nil bytes))

module _ (P : Decision → Type 0) (reads : List ℕ → Type 0) (before now : ℕ) (out err : Change) where
  at_status : (s t : Status) → s ≡ t → Ends t P reads before now out err → Ends s P reads before now out err
  at_status s t e h = subst (λ x. Ends x P reads before now out err) (sym e) h

  all_put : (k : Kind) (text : List ℕ) (s : Status) → P (prints k text) → now ≡ before → PutsAll (status_of_kind k) text s out err → Ends s P reads before now out err
  all_put kind.Done text s p same w =
      at_status s status.Done w.status_is (record { r = prints kind.Done text; outcome = p; status_is = refl; shelf = same; count = w.count; took = w.took; says = w.silent })
  all_put kind.Interference text s p same w =
      at_status s status.Interference w.status_is (record { r = prints kind.Interference text; outcome = p; status_is = refl; shelf = same; count = w.count; took = w.took; says = w.silent })
  all_put kind.NoProgram text s p same w =
      at_status s status.NoProgram w.status_is (record { r = prints kind.NoProgram text; outcome = p; status_is = refl; shelf = same; count = w.count; took = w.took; says = w.silent })
  all_put kind.Spent text s p same w =
      at_status s status.Spent w.status_is (record { r = prints kind.Spent text; outcome = p; status_is = refl; shelf = same; count = w.count; took = w.took; says = w.silent })
  all_put kind.NotEnded text s p same w =
      at_status s status.NotEnded w.status_is (record { r = prints kind.NotEnded text; outcome = p; status_is = refl; shelf = same; count = w.count; took = w.took; says = w.silent })
  all_put kind.Rejected text s p same w =
      at_status s status.Rejected w.status_is (record { r = prints kind.Rejected text; outcome = p; status_is = refl; shelf = same; count = w.count; took = w.took; says = w.silent })

  front_put : (k : Kind) (text : List ℕ) (s : Status) → P (prints k text) → now ≡ before → PutsPrefix text s out err → Ends s P reads before now out err
  front_put k text s p same w =
      at_status s status.WriteFault w.status_is (record { r = prints k text; outcome = p; text = tt; shelf = same; count = w.count; took = w.took; says = w.says })

  pub memory_ends : (s : Status) → Writes (Err stop.Memory) s out err → Ends s P reads before now out err
  memory_ends s w = at_status s status.Memory w.0 (w.1, w.2)

  pub ends_of : (answer : Result Report Stop) (s : Status) → Decides P reads before now answer → Writes answer s out err → Ends s P reads before now out err
  ends_of (Ok report) s d (inl w) = all_put report.kind report.text.items s d.0 d.1 w
  ends_of (Ok report) s d (inr w) = front_put report.kind report.text.items s d.0 d.1 w
  ends_of (Err (stop.Refused message)) s d w =
      at_status s status.Refused w.0
      (record { r = refuses (string_bytes message); outcome = d.0; status_is = refl; shelf = d.1; count = w.1.0; took = w.1.1 ∙ taken_nothing out.old; says = w.2 })
  ends_of (Err (stop.ReadFault message)) s d w =
      at_status s status.ReadFault w.0 (record { count = d.0; untouched = w.1; file = d.1; named = d.2; says = subst (λ m. Says m err) d.3 w.2 })
  ends_of (Err stop.Memory) s d w = memory_ends s w

  -- what is decided without a read
  unread_decides : (answer : Result Report Stop) → now ≡ before → Merges P answer → Decides P reads before now answer
  unread_decides (Ok report) same h = (h, same)
  unread_decides (Err (stop.Refused message)) same h = (h, same)
  unread_decides (Err (stop.ReadFault message)) same h = absurd h
  unread_decides (Err stop.Memory) same h = omega (arith, same)

  pub unread_ends : (answer : Result Report Stop) (s : Status) → now ≡ before → Merges P answer → Writes answer s out err → Ends s P reads before now out err
  unread_ends answer s same h w = ends_of answer s (unread_decides answer same h) w

  -- a read or a write that failed was counted
  pub read_rose : (s : Status) → s ≡ status.ReadFault → Ends s P reads before now out err → Rose before now
  read_rose s e h = (at_status status.ReadFault s (sym e) h).count

  pub write_rose : (s : Status) → s ≡ status.WriteFault → Ends s P reads before now out err → Rose out.before out.now
  write_rose s e h = (at_status status.WriteFault s (sym e) h).count

  shelf_kept : (s : Status) → Decided s P before now out err → before < now → ⊥
  shelf_kept s d low = omega (arith, d.shelf)

  out_kept : (s : Status) → Decided s P before now out err → out.before < out.now → ⊥
  out_kept s d low = omega (arith, d.count)

  -- a count that grew tells the status
  pub read_grew : (s : Status) → Ends s P reads before now out err → before < now → (s ≡ status.ReadFault) ⊎ (s ≡ status.Memory)
  read_grew status.ReadFault h low = inl refl
  read_grew status.Memory h low = inr refl
  read_grew status.WriteFault h low = absurd (omega (arith, h.shelf))
  read_grew status.Done h low = absurd (shelf_kept status.Done h low)
  read_grew status.Interference h low = absurd (shelf_kept status.Interference h low)
  read_grew status.NoProgram h low = absurd (shelf_kept status.NoProgram h low)
  read_grew status.Spent h low = absurd (shelf_kept status.Spent h low)
  read_grew status.Refused h low = absurd (shelf_kept status.Refused h low)
  read_grew status.Words h low = absurd (shelf_kept status.Words h low)
  read_grew status.NotEnded h low = absurd (shelf_kept status.NotEnded h low)
  read_grew status.Rejected h low = absurd (shelf_kept status.Rejected h low)

  pub write_grew : (s : Status) → Ends s P reads before now out err → out.before < out.now → s ≡ status.WriteFault
  write_grew status.WriteFault h low = refl
  write_grew status.ReadFault h low = absurd (omega (arith, h.untouched.0))
  write_grew status.Memory h low = absurd (omega (arith, h.0.0))
  write_grew status.Done h low = absurd (out_kept status.Done h low)
  write_grew status.Interference h low = absurd (out_kept status.Interference h low)
  write_grew status.NoProgram h low = absurd (out_kept status.NoProgram h low)
  write_grew status.Spent h low = absurd (out_kept status.Spent h low)
  write_grew status.Refused h low = absurd (out_kept status.Refused h low)
  write_grew status.Words h low = absurd (out_kept status.Words h low)
  write_grew status.NotEnded h low = absurd (out_kept status.NotEnded h low)
  write_grew status.Rejected h low = absurd (out_kept status.Rejected h low)

-- a kind of the request has a status of it
kind_status : (request : Request) (k : Kind) → IsKindOf request k → IsStatusOf request (status_of_kind k)
kind_status request kind.Done h = h
kind_status request kind.Interference h = h
kind_status request kind.NoProgram h = h
kind_status request kind.Spent h = h
kind_status request kind.NotEnded h = h
kind_status request kind.Rejected h = h

-- the status is one of the request
module _ (request : Request) (told : Option Files) (before now : ℕ) (out err : Change) (s : Status) where
  at_own : (t : Status) → s ≡ t → IsStatusOf request t → IsStatusOf request s
  at_own t e h = subst (IsStatusOf request) (sym e) h

  pub status_in_kind : (answer : Result Report Stop) → AnswersInKind request answer → Answers request told before now answer → Writes answer s out err → IsStatusOf request s
  status_in_kind (Ok report) k d (inl w) = at_own (status_of_kind report.kind) w.status_is (kind_status request report.kind k)
  status_in_kind (Ok report) k d (inr w) = at_own status.WriteFault w.status_is tt
  status_in_kind (Err (stop.Refused message)) k d w = at_own status.Refused w.0 tt
  status_in_kind (Err (stop.ReadFault message)) k d w = at_own status.ReadFault w.0 (λ none. none told d.1 d.2)
  status_in_kind (Err stop.Memory) k d w = at_own status.Memory w.0 tt

pub memory_status : (taken : Option Request) (s : Status) → s ≡ status.Memory → IfSome taken (λ request. IsStatusOf request s)
memory_status None s e = tt
memory_status (Some request) s e = subst (IsStatusOf request) (sym e) tt

-- words that are no call give the usage text
pub usage_ends : (P : Decision → Type 0) (reads : List ℕ → Type 0) (count faults : ℕ) (old : Option (List ℕ)) (err : Change) → P usage
    → Says usage_text err → Ends status.Words P reads count count (record { before = faults; now = faults; old = old; new = old }) err
usage_ends P reads count faults old err outcome says = record {
  r = usage;
  outcome = outcome;
  status_is = refl;
  shelf = refl;
  count = refl;
  took = taken_nothing old;
  says = says;
}

pub words_end : (taken : Option Request) (files : Option Files) (count faults : ℕ) (old : Option (List ℕ)) (err : Change) → taken ≡ None
    → Says usage_text err → Ends status.Words (OutcomeIfTold taken files) (MayReadIfTaken taken files) count count (record { before = faults; now = faults; old = old; new = old }) err
words_end taken files count faults old err none says =
    usage_ends (OutcomeIfTold taken files) (MayReadIfTaken taken files) count faults old err (rw none (λ fs is. refl)) says

pub unread_words_end : (taken : Option Request) (files : Option Files) (fs : Files) (count faults : ℕ) (old : Option (List ℕ)) (err : Change) → taken ≡ None
    → Says usage_text err → Ends status.Words (Outcome taken fs) (MayReadIfTaken taken files) count count (record { before = faults; now = faults; old = old; new = old }) err
unread_words_end taken files fs count faults old err none says =
    usage_ends (Outcome taken fs) (MayReadIfTaken taken files) count faults old err (rw none refl) says

-- the same end, for the request that the words are taken as and the files that the shelf tells
pub ends_asked : (taken : Option Request) (request : Request) (files : Option Files) (fs : Files) (reads : List ℕ → Type 0) (s : Status) (before now : ℕ) (out err : Change)
    → taken ≡ Some request → files ≡ Some fs → Ends s (OutcomeIfTold taken files) reads before now out err → Ends s (OutcomeIfTold (Some request) (Some fs)) reads before now out err
ends_asked taken request files fs reads s before now out err asked told h =
    subst (λ o. Ends s (OutcomeIfTold o (Some fs)) reads before now out err) asked
    (subst (λ f. Ends s (OutcomeIfTold taken f) reads before now out err) told h)
