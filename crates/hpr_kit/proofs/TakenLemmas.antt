-- Only of words that are no call is that the status.
use Rattle.std.proofs.Common.{◌≡◌, ◌≢◌, ◌∙◌, ℕ, ◌++◌, Bool, true, false, cond, List, [], length, sym, ap, subst, inl, inr, bytes_eq, codes, nat_lt}
use Rattle.hpr_terms.specs.declared.limits.TheConstants.{MAX_FILE}
use Rattle.hpr_syntax.specs.Print.{text}
use Rattle.hpr_syntax.specs.Tree.{Tree}
use Rattle.hpr_tagging.specs.Tagging.{kept}
use Rattle.hpr_refusals.specs.declared.files.Refusal.TheVariants.{Longer}
use Rattle.hprkit_words.specs.declared.forms.FormatForm.{FormatForm}
use Rattle.hprkit_words.specs.declared.forms.FormatForm.TheVariants as form
use Rattle.hpr_kit.specs.Answer.{Answer, beyond_text, denies, differs_text, prints, refused_text, refuses, rewrites, spent_text}
use Rattle.hpr_kit.specs.Comes.{OnTagged, formatted, placed, retold}
use Rattle.hpr_kit.specs.Reading.{OnProgram}
use Rattle.hpr_kit.specs.Ends.{Change, Rewriting}
use Rattle.hpr_kit.specs.Private.Replies.{Writes, cut, lost, no_room, stop_status, written}
use Rattle.hpr_kit.specs.Shown.{place_of}
use Rattle.hpr_kit.specs.declared.reply.Stop.{Stop}
use Rattle.hpr_kit.specs.declared.reply.Stop.TheVariants as stop
use Rattle.hpr_kit.specs.declared.status.Status.{Status}
use Rattle.hpr_kit.specs.declared.status.Status.TheVariants as status

abbrev IsTaken : Status → Type 0
IsTaken status.Done = Unit {0}
IsTaken status.No = Unit {0}
IsTaken status.Refused = Unit {0}
IsTaken status.ReadFault = Unit {0}
IsTaken status.WriteFault = Unit {0}
IsTaken status.Words = ⊥
IsTaken status.Memory = Unit {0}

pub not_words : (a b : Answer) → a ≡ b → IsTaken b.status → a.status ≢ status.Words
not_words a b same taken words = subst IsTaken (sym (ap (λ (x : Answer). x.status) same) ∙ words) taken

cond_taken : (b : Bool) (x y : Answer) → IsTaken x.status → IsTaken y.status → IsTaken (cond b x y).status
cond_taken true x y p q = p
cond_taken false x y p q = q

formatted_taken : (how : FormatForm) (file bytes : List ℕ) (p : Tree) → IsTaken (formatted how file bytes p).status
formatted_taken form.Print file bytes p = tt
formatted_taken form.Check file bytes p = cond_taken (bytes_eq bytes (text p)) (prints []) (denies (differs_text file bytes (text p))) tt tt
formatted_taken form.InPlace file bytes p = cond_taken (bytes_eq bytes (text p)) (prints []) (rewrites file bytes (text p)) tt tt

pub program_taken : (how : FormatForm) (file bytes : List ℕ) (a : Answer) → OnProgram file bytes (λ p. a ≡ formatted how file bytes p) a → a.status ≢ status.Words
program_taken how file bytes a (inl (why, cause, is)) = not_words a (refuses (refused_text file bytes why)) is tt
program_taken how file bytes a (inr (p, spelled, is)) = not_words a (formatted how file bytes p) is (formatted_taken how file bytes p)

pub place_taken : (file bytes : List ℕ) (n : ℕ) (a : Answer) → a ≡ placed file bytes n → a.status ≢ status.Words
place_taken file bytes n a is =
    let beyond : Answer = refuses (beyond_text file n (length bytes)) in
    let told : Answer = prints (place_of bytes n ++ codes "\n") in
    not_words a (placed file bytes n) is
    (cond_taken (nat_lt MAX_FILE (length bytes)) (refuses (refused_text file bytes Longer)) (cond (nat_lt (length bytes) n) beyond told) tt
    (cond_taken (nat_lt (length bytes) n) beyond told tt tt))

retold_taken : (keep : Bool) (file bytes t : List ℕ) (p : Tree) → IsTaken (retold keep file bytes t p).status
retold_taken false file bytes t p = tt
retold_taken true file bytes t p = cond_taken (nat_lt MAX_FILE (length t)) (refuses (refused_text file bytes Longer)) (prints t) tt tt

pub tagging_taken : (author : ℕ) (keep : Bool) (file bytes : List ℕ) (a : Answer)
    → OnTagged author file bytes (λ p. a ≡ retold keep file bytes (kept author bytes) p) a → a.status ≢ status.Words
tagging_taken author keep file bytes a (inl (why, cause, is)) = not_words a (refuses (refused_text file bytes why)) is tt
tagging_taken author keep file bytes a (inr (inl (spent, is))) = not_words a (refuses (spent_text file)) is tt
tagging_taken author keep file bytes a (inr (inr (p, tags, is))) =
    not_words a (retold keep file bytes (kept author bytes) p) is (retold_taken keep file bytes (kept author bytes) p)

pub write_taken : (a : Answer) (s : Status) (w : Rewriting) (out err : Change) → a.status ≢ status.Words → Writes a s w out err → s ≢ status.Words
write_taken a s w out err taken (written is rewrote quiet took says) words = taken (sym is ∙ words)
write_taken a s w out err taken (cut is kept took says) words = subst IsTaken (sym is ∙ words) tt
write_taken a s w out err taken (lost file so is kept rose took says) words = subst IsTaken (sym is ∙ words) tt
write_taken a s w out err taken (no_room is kept took says) words = subst IsTaken (sym is ∙ words) tt

stop_taken : (x : Stop) → IsTaken (stop_status x)
stop_taken (stop.ReadFault message) = tt
stop_taken (stop.WriteFault message) = tt
stop_taken stop.Memory = tt

pub stopped_taken : (x : Stop) (s : Status) → s ≡ stop_status x → s ≢ status.Words
stopped_taken x s is words = subst IsTaken (sym is ∙ words) (stop_taken x)
