-- What each command does, by how a call ends.
use Rattle.std.proofs.Common.{◌≡◌, ◌≢◌, ◌∙◌, ℕ, ◌≤◌, Bool, true, false, cond, List, [], ◌∷◌, ◌++◌, length, refl, sym, ap, subst, inl, inr, None, Option, Some, IfSome, bytes_eq, nat_lt, codes}
use Rattle.std.proofs.lemmas.Bool.{ltb-false, true≢false}
use Rattle.hpr_io.specs.Files.{Files, bytes_of}
use Rattle.hpr_terms.specs.declared.limits.TheConstants.{MAX_FILE}
use Rattle.hpr_syntax.specs.Grammar.{tagged}
use Rattle.hpr_syntax.specs.Print.{text}
use Rattle.hpr_syntax.specs.Tree.{Tree}
use Rattle.hpr_refusals.proofs.Once.{one_file}
use Rattle.hpr_refusals.specs.Reasons.{refusal_text}
use Rattle.hpr_refusals.specs.Refusals.{IsFileOf}
use Rattle.hpr_refusals.specs.declared.files.Refusal.TheVariants.{Longer}
use Rattle.hpr_tagging.specs.Tagging.{kept}
use Rattle.hpr_words.proofs.RowLemmas.{is_same, same_text}
use Rattle.hprkit_words.specs.Ask.{Ask, affected, conflicts, format, graph, help, impact, merge, place, tag, version}
use Rattle.hprkit_words.specs.declared.forms.FormatForm.TheVariants as form
use Rattle.hpr_kit.specs.Answer.{Answer, beyond_text, denies, differs_text, prints, refused_text, refuses, rewrites}
use Rattle.hpr_kit.specs.Comes.{Comes, OnTagged, checked, formatted, placed, retold}
use Rattle.hpr_kit.specs.Reading.{OnProgram, read}
use Rattle.hpr_kit.specs.Does.{Checks, Formats, IsCanonical, Places, Renews, RenewsFile, Tags, Took, renewal}
use Rattle.hpr_kit.specs.Ends.{Change, Ends, Kept, Rewriting, Rewrote, TookAll, answers, cut_short, no_memory, unread, unwritten}
use Rattle.hpr_kit.specs.Shown.{place_of}
use Rattle.hpr_kit.specs.Tags.{IsTagging}
use Rattle.hpr_kit.proofs.ReadLemmas.{file_is, read_all, read_is}
use Rattle.hpr_kit.proofs.GraphLemmas.{conflicts_said, graph_said, impact_said, merge_said, on_source, on_sources, reasons_said}
use Rattle.hpr_kit.proofs.TagLemmas.{tagged_done}
use Rattle.hpr_kit.specs.declared.status.Status.{Status}
use Rattle.hpr_kit.specs.declared.status.Status.TheVariants as status

-- the same end, for what is asked and the files that are told
pub asked_ends : (taken : Option Ask) (ask : Ask) (told : Option Files) (files : Files) (reads : List ℕ → Type 0) (s : Status) (before now : ℕ) (w : Rewriting) (out err : Change)
    → taken ≡ Some ask → told ≡ Some files → Ends s (λ a. IfSome told (λ fs. Comes taken fs a)) reads before now w out err
    → Ends s (Comes (Some ask) files) reads before now w out err
asked_ends taken ask told files reads s before now w out err is known h =
    subst (λ o. Ends s (Comes o files) reads before now w out err) is
    (subst (λ t. Ends s (λ a. IfSome t (λ fs. Comes taken fs a)) reads before now w out err) known h)

-- the statuses of answers
abbrev IsAnswer : Status → Type 0
IsAnswer status.Done = Unit {0}
IsAnswer status.No = Unit {0}
IsAnswer status.Refused = Unit {0}
IsAnswer status.Words = Unit {0}
IsAnswer status.ReadFault = ⊥
IsAnswer status.WriteFault = ⊥
IsAnswer status.Memory = ⊥

module _ (s : Status) (P : Answer → Type 0) (reads : List ℕ → Type 0) (before now : ℕ) (w : Rewriting) (out err : Change) where
  answer_at : (t : Status) → IsAnswer t → s ≡ t → Ends s P reads before now w out err → (a : Answer) × P a × (a.status ≡ t) × TookAll a.out out
  answer_at t is e (answers a p so same rewrote quiet took says) = (a, p, sym so ∙ e, took)
  answer_at t is e (cut_short a p so same kept took says) = absurd (subst IsAnswer (sym e ∙ so) is)
  answer_at t is e (unwritten a r p so is_file same kept rose took says) = absurd (subst IsAnswer (sym e ∙ is_file) is)
  answer_at t is e (unread file r so rose kept took says) = absurd (subst IsAnswer (sym e ∙ so) is)
  answer_at t is e (no_memory so kept took says) = absurd (subst IsAnswer (sym e ∙ so) is)

-- an answer has one status
abbrev of_status : (a b : Answer) → a ≡ b → a.status ≡ b.status
of_status a b is = ap (λ (x : Answer). x.status) is

module _ (a : Answer) where
  done_refused : a.status ≡ status.Refused → a.status ≡ status.Done → ⊥
  done_refused is done = let e : status.Refused ≡ status.Done = sym is ∙ done in cc

  no_refused : a.status ≡ status.Refused → a.status ≡ status.No → ⊥
  no_refused is negative = let e : status.Refused ≡ status.No = sym is ∙ negative in cc

  done_no : a.status ≡ status.No → a.status ≡ status.Done → ⊥
  done_no is done = let e : status.No ≡ status.Done = sym is ∙ done in cc

-- ---- `fmt`

printed : (ask : Ask) (files : Files) (a : Answer) → Comes (Some ask) files a → a.status ≡ status.Done → Formats ask files a.out
printed (format file form.Print) files a (inl (why, cause, is)) done = absurd (done_refused a (of_status a _ is) done)
printed (format file form.Print) files a (inr (p, spelled, is)) done = (p, file_is files file p spelled, ap (λ (x : Answer). x.out) is)
printed (format file form.Check) files a h done = tt
printed (format file form.InPlace) files a h done = tt
printed help files a h done = tt
printed version files a h done = tt
printed (place file n) files a h done = tt
printed (tag file author keep) files a h done = tt
printed (graph file how) files a h done = tt
printed (impact file points how) files a h done = tt
printed (affected base variant) files a h done = tt
printed (conflicts base variants) files a h done = tt
printed (merge base variants tries) files a h done = tt

-- ---- `fmt --check`

module _ (file bytes : List ℕ) (a : Answer) where
  by_test : (canonical : List ℕ) (b : Bool) → bytes_eq bytes canonical ≡ b → a ≡ cond b (prints []) (denies (differs_text file bytes canonical))
      → (a.status ≡ status.Done → bytes ≡ canonical) × (a.status ≡ status.No → bytes ≢ canonical) × (a.status ≢ status.Refused)
  by_test canonical true e is =
      let done : a.status ≡ status.Done = of_status a _ is in
      (λ was. is_same bytes canonical e, λ negative. absurd (done_no a negative done), λ refused. done_refused a refused done)
  by_test canonical false e is =
      let negative : a.status ≡ status.No = of_status a _ is in
      (λ done. absurd (done_no a negative done), λ was same. differ e same, λ refused. no_refused a refused negative)
    where
      differ : bytes_eq bytes canonical ≡ false → bytes ≡ canonical → ⊥
      differ e same = true≢false (sym (subst (λ t. bytes_eq bytes t ≡ true) same (same_text bytes)) ∙ e)

  tested : (canonical : List ℕ) → a ≡ checked file bytes canonical
      → (a.status ≡ status.Done → bytes ≡ canonical) × (a.status ≡ status.No → bytes ≢ canonical) × (a.status ≢ status.Refused)
  tested canonical is = by_test canonical (bytes_eq bytes canonical) refl is

  abbrev IsCheck : Type 0
  IsCheck = OnProgram file bytes (λ p. a ≡ checked file bytes (text p)) a

  check_done : IsCheck → a.status ≡ status.Done → (p : Tree) × IsFileOf bytes p × (bytes ≡ text p)
  check_done (inl (why, cause, is)) done = absurd (done_refused a (of_status a _ is) done)
  check_done (inr (p, spelled, is)) done = (p, spelled, (tested (text p) is).0 done)

  check_no : IsCheck → a.status ≡ status.No → (p : Tree) × IsFileOf bytes p × (bytes ≢ text p)
  check_no (inl (why, cause, is)) negative = absurd (no_refused a (of_status a _ is) negative)
  check_no (inr (p, spelled, is)) negative = (p, spelled, (tested (text p) is).1 negative)

  -- a file that spells a program isn't refused, and one that has its canonical text isn't another
  module _ (q : Tree) (spells : IsFileOf bytes q) where
    never_no : bytes ≡ text q → IsCheck → a.status ≡ status.No → ⊥
    never_no canonical (inl (why, cause, is)) negative = no_refused a (of_status a _ is) negative
    never_no canonical (inr (p, spelled, is)) negative = (tested (text p) is).1 negative (canonical ∙ ap text ((one_file tagged bytes file).value q p spells spelled))

    never_refused : IsCheck → a.status ≡ status.Refused → ⊥
    never_refused (inl (why, cause, is)) refused = (one_file tagged bytes file).apart (refusal_text file why) q (why, cause, refl) spells
    never_refused (inr (p, spelled, is)) refused = (tested (text p) is).2 refused

module _ (files : Files) (file : List ℕ) (a : Answer) (h : IsCheck file (read files file) a) where
  canonical_file : a.status ≡ status.Done → IsCanonical (bytes_of files file)
  canonical_file done =
      let (p, spelled, is) = check_done file (read files file) a h done in
      (p, file_is files file p spelled, sym (read_is files file spelled.short) ∙ is)

  other_file : a.status ≡ status.No → (p : Tree) × IsFileOf (bytes_of files file) p × (bytes_of files file ≢ text p)
  other_file negative =
      let (p, spelled, differs) = check_no file (read files file) a h negative in
      (p, file_is files file p spelled, λ same. differs (read_is files file spelled.short ∙ same))

  module _ (q : Tree) (spells : IsFileOf (bytes_of files file) q) where
    all_read : read files file ≡ bytes_of files file
    all_read = read_all files file q spells

    is_spelled : IsFileOf (read files file) q
    is_spelled = subst (λ bytes. IsFileOf bytes q) (sym all_read) spells

    pub not_no : bytes_of files file ≡ text q → a.status ≡ status.No → ⊥
    not_no canonical negative = never_no file (read files file) a q is_spelled (all_read ∙ canonical) h negative

    pub not_refused : a.status ≡ status.Refused → ⊥
    not_refused refused = never_refused file (read files file) a q is_spelled h refused

-- ---- `at`

module _ (file bytes : List ℕ) (n : ℕ) (a : Answer) where
  within : (c : Bool) → nat_lt (length bytes) n ≡ c → a ≡ cond c (refuses (beyond_text file n (length bytes))) (prints (place_of bytes n ++ codes "\n")) → a.status ≡ status.Done
      → (n ≤ length bytes) × (a.out ≡ place_of bytes n ++ codes "\n")
  within true e is done = absurd (done_refused a (of_status a _ is) done)
  within false e is done = (ltb-false (length bytes) n e, ap (λ (x : Answer). x.out) is)

  short_enough : (b : Bool) → nat_lt MAX_FILE (length bytes) ≡ b
      → a ≡ cond b (refuses (refused_text file bytes Longer))
      (cond (nat_lt (length bytes) n) (refuses (beyond_text file n (length bytes))) (prints (place_of bytes n ++ codes "\n")))
      → a.status ≡ status.Done → (length bytes ≤ MAX_FILE) × ((n ≤ length bytes) × (a.out ≡ place_of bytes n ++ codes "\n"))
  short_enough true e is done = absurd (done_refused a (of_status a _ is) done)
  short_enough false e is done = (ltb-false MAX_FILE (length bytes) e, within (nat_lt (length bytes) n) refl is done)

  placed_done : a ≡ placed file bytes n → a.status ≡ status.Done → (length bytes ≤ MAX_FILE) × ((n ≤ length bytes) × (a.out ≡ place_of bytes n ++ codes "\n"))
  placed_done is done = short_enough (nat_lt MAX_FILE (length bytes)) refl is done

told_place : (ask : Ask) (files : Files) (a : Answer) → Comes (Some ask) files a → a.status ≡ status.Done → Places ask files a.out
told_place (place file n) files a h done =
    let (short, is) = placed_done file (read files file) n a h done in
    subst (λ bytes. (n ≤ length bytes) × (a.out ≡ place_of bytes n ++ codes "\n")) (read_is files file short) is
told_place help files a h done = tt
told_place version files a h done = tt
told_place (format file how) files a h done = tt
told_place (tag file author keep) files a h done = tt
told_place (graph file how) files a h done = tt
told_place (impact file points how) files a h done = tt
told_place (affected base variant) files a h done = tt
told_place (conflicts base variants) files a h done = tt
told_place (merge base variants tries) files a h done = tt

-- ---- `tag`

tagged_file : (ask : Ask) (files : Files) (a : Answer) → Comes (Some ask) files a → a.status ≡ status.Done → Tags ask files a.out
tagged_file (tag file author keep) files a h done =
    let (short, is) = tagged_done file (read files file) a author keep h done in
    subst (λ bytes. IsTagging author keep bytes a.out) (read_is files file short) is
tagged_file help files a h done = tt
tagged_file version files a h done = tt
tagged_file (format file how) files a h done = tt
tagged_file (place file n) files a h done = tt
tagged_file (graph file how) files a h done = tt
tagged_file (impact file points how) files a h done = tt
tagged_file (affected base variant) files a h done = tt
tagged_file (conflicts base variants) files a h done = tt
tagged_file (merge base variants tries) files a h done = tt

module _ (ask : Ask) (files : Files) (reads : List ℕ → Type 0) (s : Status) (before now : ℕ) (w : Rewriting) (out err : Change) (ends : Ends s (Comes (Some ask) files) reads before now w out err) where
  took_done : (Does : List ℕ → Type 0) → ((a : Answer) → Comes (Some ask) files a → a.status ≡ status.Done → Does a.out) → s ≡ status.Done → Took out.old out.new Does
  took_done Does does done =
      let (a, comes, is, took) = answer_at s (Comes (Some ask) files) reads before now w out err status.Done tt done ends in
      (a.out, took.1, does a comes is)

  pub formats_done : s ≡ status.Done → Took out.old out.new (Formats ask files)
  formats_done done = took_done (Formats ask files) (λ a comes is. printed ask files a comes is) done

  pub places_done : s ≡ status.Done → Took out.old out.new (Places ask files)
  places_done done = took_done (Places ask files) (λ a comes is. told_place ask files a comes is) done

  pub tags_done : s ≡ status.Done → Took out.old out.new (Tags ask files)
  tags_done done = took_done (Tags ask files) (λ a comes is. tagged_file ask files a comes is) done

pub checks : (ask : Ask) (files : Files) (reads : List ℕ → Type 0) (s : Status) (before now : ℕ) (w : Rewriting) (out err : Change) → Ends s (Comes (Some ask) files) reads before now w out err
    → Checks ask files s
checks (format file form.Check) files reads s before now w out err ends =
    let P : Answer → Type 0 = Comes (Some (format file form.Check)) files in
    record {
      done = λ e. let (a, comes, is, took) = answer_at s P reads before now w out err status.Done tt e ends in canonical_file files file a comes is;
      only = λ canonical negative.
          (let (a, comes, is, took) = answer_at s P reads before now w out err status.No tt negative ends in
          not_no files file a comes canonical.0 canonical.1 canonical.2 is);
      spelled = λ q spells refused.
          (let (a, comes, is, took) = answer_at s P reads before now w out err status.Refused tt refused ends in not_refused files file a comes q spells is);
      other = λ negative. let (a, comes, is, took) = answer_at s P reads before now w out err status.No tt negative ends in other_file files file a comes is;
    }
checks (format file form.Print) files reads s before now w out err ends = tt
checks (format file form.InPlace) files reads s before now w out err ends = tt
checks help files reads s before now w out err ends = tt
checks version files reads s before now w out err ends = tt
checks (place file n) files reads s before now w out err ends = tt
checks (tag file author keep) files reads s before now w out err ends = tt
checks (graph file how) files reads s before now w out err ends = tt
checks (impact file points how) files reads s before now w out err ends = tt
checks (affected base variant) files reads s before now w out err ends = tt
checks (conflicts base variants) files reads s before now w out err ends = tt
checks (merge base variants tries) files reads s before now w out err ends = tt

-- ---- `fmt --in-place`

-- what an answer gives a file
module _ (s : Status) (P : Answer → Type 0) (reads : List ℕ → Type 0) (before now : ℕ) (w : Rewriting) (out err : Change) where
  none_given : ((a : Answer) → P a → a.rewrite ≡ None) → Ends s P reads before now w out err → Kept w
  none_given none (answers a p so same rewrote quiet took says) = subst (λ r. Rewrote r w) (none a p) rewrote
  none_given none (cut_short a p so same kept took says) = kept
  none_given none (unwritten a r p so is same kept rose took says) = kept
  none_given none (unread file r so rose kept took says) = kept
  none_given none (no_memory so kept took says) = kept

  done_gives : s ≡ status.Done → Ends s P reads before now w out err → (a : Answer) × P a × (a.status ≡ status.Done) × Rewrote a.rewrite w
  done_gives e (answers a p so same rewrote quiet took says) = (a, p, sym so ∙ e, rewrote)
  done_gives e (cut_short a p so same kept took says) = absurd (subst IsAnswer (sym e ∙ so) tt)
  done_gives e (unwritten a r p so is same kept rose took says) = absurd (subst IsAnswer (sym e ∙ is) tt)
  done_gives e (unread file r so rose kept took says) = absurd (subst IsAnswer (sym e ∙ so) tt)
  done_gives e (no_memory so kept took says) = absurd (subst IsAnswer (sym e ∙ so) tt)

  else_kept : ((a : Answer) → P a → a.status ≢ status.Done → a.rewrite ≡ None) → s ≢ status.Done → Ends s P reads before now w out err → Kept w
  else_kept none e (answers a p so same rewrote quiet took says) = subst (λ r. Rewrote r w) (none a p (λ is. e (so ∙ is))) rewrote
  else_kept none e (cut_short a p so same kept took says) = kept
  else_kept none e (unwritten a r p so is same kept rose took says) = kept
  else_kept none e (unread file r so rose kept took says) = kept
  else_kept none e (no_memory so kept took says) = kept

abbrev GivesNone : Answer → Type 0
GivesNone a = a.rewrite ≡ None

none_given_by : (a b : Answer) → a ≡ b → GivesNone b → GivesNone a
none_given_by a b same none = subst GivesNone (sym same) none

cond_none : (b : Bool) (x y : Answer) → GivesNone x → GivesNone y → GivesNone (cond b x y)
cond_none true x y p q = p
cond_none false x y p q = q

module _ (file bytes : List ℕ) (a : Answer) where
  printed_none : OnProgram file bytes (λ p. a ≡ formatted form.Print file bytes p) a → GivesNone a
  printed_none (inl (why, cause, is)) = none_given_by a _ is refl
  printed_none (inr (p, spelled, is)) = none_given_by a _ is refl

  checked_none : OnProgram file bytes (λ p. a ≡ formatted form.Check file bytes p) a → GivesNone a
  checked_none (inl (why, cause, is)) = none_given_by a _ is refl
  checked_none (inr (p, spelled, is)) =
      none_given_by a _ is (cond_none (bytes_eq bytes (text p)) (prints []) (denies (differs_text file bytes (text p))) refl refl)

  placed_none : (n : ℕ) → a ≡ placed file bytes n → GivesNone a
  placed_none n is =
      let beyond : Answer = refuses (beyond_text file n (length bytes)) in
      let told : Answer = prints (place_of bytes n ++ codes "\n") in
      none_given_by a (placed file bytes n) is
      (cond_none (nat_lt MAX_FILE (length bytes)) (refuses (refused_text file bytes Longer)) (cond (nat_lt (length bytes) n) beyond told) refl
      (cond_none (nat_lt (length bytes) n) beyond told refl refl))

  retold_none : (keep : Bool) (t : List ℕ) (p : Tree) → a ≡ retold keep file bytes t p → GivesNone a
  retold_none false t p is = none_given_by a _ is refl
  retold_none true t p is = none_given_by a _ is (cond_none (nat_lt MAX_FILE (length t)) (refuses (refused_text file bytes Longer)) (prints t) refl refl)

  tagged_none : (author : ℕ) (keep : Bool) → OnTagged author file bytes (λ p. a ≡ retold keep file bytes (kept author bytes) p) a → GivesNone a
  tagged_none author keep (inl (why, cause, is)) = none_given_by a _ is refl
  tagged_none author keep (inr (inl (spent, is))) = none_given_by a _ is refl
  tagged_none author keep (inr (inr (p, tags, is))) = retold_none keep (kept author bytes) p is

  abbrev IsRenewal : Type 0
  IsRenewal = OnProgram file bytes (λ p. a ≡ formatted form.InPlace file bytes p) a

  by_sameness : (p : Tree) (b : Bool) → a ≡ cond b (prints []) (rewrites file bytes (text p))
      → (a.status ≡ status.Done) × (a.rewrite ≡ cond b None (Some (record { file = file; had = bytes; bytes = text p })))
  by_sameness p true is = (of_status a _ is, ap (λ (x : Answer). x.rewrite) is)
  by_sameness p false is = (of_status a _ is, ap (λ (x : Answer). x.rewrite) is)

  renewal_done : IsRenewal → a.status ≡ status.Done → (p : Tree) × IsFileOf bytes p × (a.rewrite ≡ renewal file bytes p)
  renewal_done (inl (why, cause, is)) done = absurd (done_refused a (of_status a _ is) done)
  renewal_done (inr (p, spelled, is)) done = (p, spelled, (by_sameness p (bytes_eq bytes (text p)) is).1)

  renewal_else : IsRenewal → a.status ≢ status.Done → GivesNone a
  renewal_else (inl (why, cause, is)) other = none_given_by a _ is refl
  renewal_else (inr (p, spelled, is)) other = absurd (other (by_sameness p (bytes_eq bytes (text p)) is).0)

module _ (files : Files) (reads : List ℕ → Type 0) (s : Status) (before now : ℕ) (w : Rewriting) (out err : Change) where
  renewed_file : (file : List ℕ) → Ends s (Comes (Some (format file form.InPlace)) files) reads before now w out err → RenewsFile file (bytes_of files file) s w
  renewed_file file ends =
      let P : Answer → Type 0 = Comes (Some (format file form.InPlace)) files in (
        λ done. gave (done_gives s P reads before now w out err done ends),
        λ other. else_kept s P reads before now w out err (λ a p is. renewal_else file (read files file) a p is) other ends,
      )
    where
      gave : (a : Answer) × Comes (Some (format file form.InPlace)) files a × (a.status ≡ status.Done) × Rewrote a.rewrite w
          → (p : Tree) × IsFileOf (bytes_of files file) p × Rewrote (renewal file (bytes_of files file) p) w
      gave (a, comes, is, rewrote) =
          let (p, spelled, given) = renewal_done file (read files file) a comes is in
          (p, file_is files file p spelled, subst (λ bytes. Rewrote (renewal file bytes p) w) (read_is files file spelled.short) (subst (λ r. Rewrote r w) given rewrote))

  pub renews : (ask : Ask) → Ends s (Comes (Some ask) files) reads before now w out err → Renews ask files s w
  renews (format file form.InPlace) ends = renewed_file file ends
  renews (format file form.Print) ends = none_given s _ reads before now w out err (λ a comes. printed_none file (read files file) a comes) ends
  renews (format file form.Check) ends = none_given s _ reads before now w out err (λ a comes. checked_none file (read files file) a comes) ends
  renews help ends = none_given s _ reads before now w out err (λ a comes. none_given_by a _ comes refl) ends
  renews version ends = none_given s _ reads before now w out err (λ a comes. none_given_by a _ comes refl) ends
  renews (place file n) ends = none_given s _ reads before now w out err (λ a comes. placed_none file (read files file) a n comes) ends
  renews (tag file author keep) ends = none_given s _ reads before now w out err (λ a comes. tagged_none file (read files file) a author keep comes) ends
  renews (graph file how) ends =
      none_given s _ reads before now w out err (λ a comes. (on_source files file _ a (λ p t told. graph_said file p a how t told) comes).none) ends
  renews (impact file points how) ends =
      none_given s _ reads before now w out err
      (λ a comes. (on_source files file _ a (λ p t told. impact_said file p a how points (read files file) t told) comes).none) ends
  renews (affected base variant) ends =
      none_given s _ reads before now w out err
      (λ a comes. (on_source files base _ a
      (λ p r then. on_source files variant _ a (λ q t told. reasons_said base p variant q t a told) then) comes).none) ends
  renews (conflicts base variants) ends =
      none_given s _ reads before now w out err
      (λ a comes. (on_sources files (base ∷ variants) _ a (λ ps ss told. conflicts_said (base ∷ variants) ps ss a told) comes).none) ends
  renews (merge base variants tries) ends =
      none_given s _ reads before now w out err
      (λ a comes. (on_sources files (base ∷ variants) _ a (λ ps ss told. merge_said (base ∷ variants) ps tries ss a told) comes).none) ends
