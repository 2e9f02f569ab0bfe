-- How a call ends, from what was decided and what was written.
use Rattle.std.proofs.Common.{◌≡◌, ◌∙◌, ◌⊎◌, ℕ, List, [], refl, ap, sym, subst, inl, inr, Option, Some, None, IfSome}
use Rattle.std.proofs.lemmas.List.{append-nil}
use Rattle.hpr_io.specs.Counts.{Rose}
use Rattle.hpr_io.specs.Files.{Files}
use Rattle.hpr_io.specs.Taken.{taken_then}
use Rattle.hprkit_words.specs.Ask.{Ask}
use Rattle.hpr_kit.specs.Answer as text
use Rattle.hpr_kit.specs.Answer.{Answer, Rewrite, rewrites, usage_text}
use Rattle.hpr_kit.specs.Comes.{Comes, MayRead}
use Rattle.hpr_kit.specs.Reading.{read}
use Rattle.hpr_kit.specs.Ends.{Change, Ends, Kept, Rewriting, Says, TookAll, answers, cut_short, no_memory, unread, unwritten}
use Rattle.hpr_kit.specs.Private.Replies.{IsUnwritten, RewritesFile, StopIs, Writes, cut, lost, no_room, stop_message, stop_status, written}
use Rattle.hpr_kit.specs.declared.reply.Stop.{Stop}
use Rattle.hpr_kit.specs.declared.reply.Stop.TheVariants as stop
use Rattle.hpr_kit.specs.declared.status.Status.{Status}
use Rattle.hpr_kit.specs.declared.status.Status.TheVariants.{Memory, Words, WriteFault}

pub taken_nothing : (taken : Option (List ℕ)) → taken ≡ taken_then taken []
taken_nothing None = refl
taken_nothing (Some bytes) = ap Some (sym (append-nil bytes))

-- what is so of all files is so of those that are told
pub if_told : (told : Option Files) (P : Files → Type 0) → ((files : Files) → P files) → IfSome told P
if_told None P h = tt
if_told (Some files) P h = h files

-- what is so of the bytes that were read is so of what is read of the file
pub of_read : (told : Option Files) (file front bytes : List ℕ) (P : List ℕ → Type 0) → IfSome told (λ files. front ≡ read files file) → bytes ≡ front → P bytes
    → IfSome told (λ files. P (read files file))
of_read None file front bytes P is same h = tt
of_read (Some files) file front bytes P is same h = subst P (same ∙ is) h

module _ (P : Answer → Type 0) (reads : List ℕ → Type 0) (before now : ℕ) (w : Rewriting) (out err : Change) where
  pub reply_ends : (a : Answer) (s : Status) → P a → now ≡ before → Writes a s w out err → Ends s P reads before now w out err
  reply_ends a s p same (written is rewrote quiet took says) = answers a p is same rewrote quiet took says
  reply_ends a s p same (cut is kept took says) = cut_short a p is same kept took says
  reply_ends a s p same (lost r so is kept rose took says) = unwritten a r p so is same kept rose took says
  reply_ends a s p same (no_room is kept took says) = no_memory is kept took says

  pub memory_ends : (s : Status) → s ≡ Memory → Kept w → TookAll [] out → Says text.no_memory err → Ends s P reads before now w out err
  memory_ends s e kept took says = no_memory e kept took says

  pub stop_ends : (x : Stop) (s : Status) → StopIs reads before now x → s ≡ stop_status x → Kept w → TookAll [] out → Says (stop_message x) err
      → Ends s P reads before now w out err
  stop_ends (stop.ReadFault message) s (rose, (file, named, is)) e kept took says = unread file named e rose kept took (subst (λ m. Says m err) is says)
  stop_ends (stop.WriteFault message) s h e kept took says = absurd h
  stop_ends stop.Memory s h e kept took says = no_memory e kept took says

-- what was put of a reply
module _ (w : Rewriting) (out err : Change) where
  pub file_written : (r : Rewrite) (s : Status) → TookAll [] out → RewritesFile r s w err → Writes (rewrites r.file r.had r.bytes) s w out err
  file_written r s took (inl (is, rewrote, quiet, says)) = written is rewrote quiet took says
  file_written r s took (inr (inl (is, kept, rose, says))) = lost r refl is kept rose took says
  file_written r s took (inr (inr (is, kept, says))) = no_room is kept took says

-- that a file can't be written is said, or that there is no memory to say it
module _ (w : Rewriting) (err : Change) where
  pub said_unwritten : (file : List ℕ) (x : Stop) (s : Status) → Kept w → Rose w.before w.now → IsUnwritten file x → s ≡ stop_status x → Says (stop_message x) err
      → ((s ≡ WriteFault) × Kept w × Rose w.before w.now × Says (text.cannot_rewrite file) err) ⊎ ((s ≡ Memory) × Kept w × Says text.no_memory err)
  said_unwritten file (stop.ReadFault message) s kept rose h e says = absurd h
  said_unwritten file (stop.WriteFault message) s kept rose h e says = inl (e, kept, rose, subst (λ m. Says m err) h says)
  said_unwritten file stop.Memory s kept rose h e says = inr (e, kept, says)

-- the same end, for what is asked by another name
pub ends_for : (s : Status) (told : Option Files) (o q : Option Ask) (before now : ℕ) (w : Rewriting) (out err : Change) → q ≡ o
    → Ends s (λ a. IfSome told (λ files. Comes q files a)) (MayRead q told) before now w out err
    → Ends s (λ a. IfSome told (λ files. Comes o files a)) (MayRead o told) before now w out err
ends_for s told o q before now w out err e h = subst (λ x. Ends s (λ a. IfSome told (λ files. Comes x files a)) (MayRead x told) before now w out err) e h

-- words that are no call give the usage text
pub words_end : (ask : Option Ask) (told : Option Files) (before : ℕ) (w : Rewriting) (out err : Change) → ask ≡ None → Kept w → w.now ≡ w.before → TookAll [] out
    → Says usage_text err → Ends Words (λ a. IfSome told (λ files. Comes ask files a)) (MayRead ask told) before before w out err
words_end ask told before w out err none kept quiet took says =
    let usage : Answer = record { status = Words; out = []; err = usage_text; rewrite = None } in
    answers usage (if_told told (λ files. Comes ask files usage) (λ files. subst (λ o. Comes o files usage) (sym none) refl)) refl refl kept quiet took says
