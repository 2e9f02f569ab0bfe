-- Files that are read one after another, and what comes of them.
use Rattle.std.proofs.Common.{◌≡◌, ◌≢◌, ◌∙◌, ℕ, ◌+◌, ◌<◌, All, Bool, IsTrue, List, [], ◌∷◌, ◌++◌, length, take, drop, get_or, map, Bor, Option, Some, None, Result, Ok, Err, IfOk, IfSome, Vec, inl, inr, sym, ap, subst}
use Rattle.std.proofs.lemmas.List.{drop_more, get_or-map, length-map, map-append, take-append-drop, take_more}
use Rattle.std.specs.Global.{Global}
use Rattle.hpr_io.specs.Counts.{Rose}
use Rattle.hpr_io.specs.Files.{Files}
use Rattle.hpr_syntax.specs.Tree.{Tree}
use Rattle.hpr_refusals.specs.Refusals.{IsFileOf}
use Rattle.hpr_inputs.specs.Reads.{IsReached}
use Rattle.hpr_located.specs.Sources.{Standing, standing_of}
use Rattle.hpr_located.specs.declared.source.Source.{Source}
use Rattle.hpr_kit.specs.Answer.{Answer, refused_text, refuses}
use Rattle.hprkit_words.specs.Ask.{Ask}
use Rattle.hpr_kit.specs.Comes.{Comes, MayRead}
use Rattle.hpr_kit.specs.Reading.{OnProgram, read}
use Rattle.hpr_kit.specs.Private.Loads.{AreLoaded, HaltIs, IsLoaded, Judges, Loads}
use Rattle.hpr_kit.specs.Private.Graphs.{Halts, Says, Settles}
use Rattle.hpr_kit.specs.Private.Replies.{Decides, StopIs, seen}
use Rattle.hpr_kit.specs.Sources.{IsSource, OnSource, OnSources}
use Rattle.hpr_kit.specs.declared.load.Halt.{Halt}
use Rattle.hpr_kit.specs.declared.load.Halt.TheVariants as halt
use Rattle.hpr_kit.specs.declared.reply.Reply.{Reply}
use Rattle.hpr_kit.specs.declared.reply.Stop.{Stop}
use Rattle.hpr_kit.specs.declared.reply.Stop.TheVariants as stop
use Rattle.hpr_kit.specs.declared.status.Status.TheVariants.{Words}
use Rattle.hpr_kit.proofs.ReadLemmas.{reached}
use Rattle.hpr_kit.proofs.TakenLemmas.{not_words}

-- what is so of the files that are told
pub told_map : (told : Option Files) (P Q : Files → Type 0) → ((files : Files) → P files → Q files) → IfSome told P → IfSome told Q
told_map None P Q f h = tt
told_map (Some files) P Q f h = f files h

pub told_both : (told : Option Files) (P Q R : Files → Type 0) → ((files : Files) → P files → Q files → R files) → IfSome told P → IfSome told Q → IfSome told R
told_both None P Q R f h k = tt
told_both (Some files) P Q R f h k = f files h k

module _ (files : Files) where
  one_more : (names : List (List ℕ)) (file : List ℕ) (ps : List Tree) (p : Tree) (ss : List Standing) (s : Standing) → AreLoaded files names ps ss
      → IsLoaded files file p s → AreLoaded files (names ++ file ∷ []) (ps ++ p ∷ []) (ss ++ s ∷ [])
  one_more [] file [] p [] s are is = (is, tt)
  one_more [] file [] p (t ∷ ss) s are is = absurd are
  one_more [] file (q ∷ ps) p [] s are is = absurd are
  one_more [] file (q ∷ ps) p (t ∷ ss) s are is = absurd are
  one_more (n ∷ names) file [] p [] s are is = absurd are
  one_more (n ∷ names) file [] p (t ∷ ss) s are is = absurd are
  one_more (n ∷ names) file (q ∷ ps) p [] s are is = absurd are
  one_more (n ∷ names) file (q ∷ ps) p (t ∷ ss) s are is = (are.0, one_more names file ps p ss s are.1 is)

  past_front : (front names : List (List ℕ)) (ps : List Tree) (ss : List Standing) (a : Answer) → AreLoaded files front ps ss
      → OnSources files names (λ qs ts. ⊥) a → OnSources files (front ++ names) (λ qs ts. ⊥) a
  past_front [] names ps ss a are h = h
  past_front (n ∷ front) names [] [] a are h = absurd are
  past_front (n ∷ front) names [] (s ∷ ss) a are h = absurd are
  past_front (n ∷ front) names (p ∷ ps) [] a are h = absurd are
  past_front (n ∷ front) names (p ∷ ps) (s ∷ ss) a are h = inr (p, are.0.0, (s, are.0.1, past_front front names ps ss a are.1 h))

  -- a file that is refused decides whatever the programs would
  pub refused_one : (file : List ℕ) (next : Tree → Standing → Type 0) (a : Answer) → OnProgram file (read files file) (λ p. ⊥) a → OnSource files file next a
  refused_one file next a (inl h) = inl h
  refused_one file next a (inr (p, is, h)) = absurd h

  pub refused_all : (names : List (List ℕ)) (next : List Tree → List Standing → Type 0) (a : Answer) → OnSources files names (λ ps ss. ⊥) a → OnSources files names next a
  refused_all [] next a h = absurd h
  refused_all (n ∷ names) next a (inl h) = inl h
  refused_all (n ∷ names) next a (inr (p, is, (s, stands, h))) = inr (p, is, (s, stands, refused_all names (λ ps ss. next (p ∷ ps) (s ∷ ss)) a h))

  pub loaded_one : (file : List ℕ) (p : Tree) (s : Standing) (next : Tree → Standing → Type 0) (a : Answer) → IsLoaded files file p s → next p s → OnSource files file next a
  loaded_one file p s next a is h = inr (p, is.0, (s, is.1, h))

  loaded_all : (names : List (List ℕ)) (ps : List Tree) (ss : List Standing) (next : List Tree → List Standing → Type 0) (a : Answer) → AreLoaded files names ps ss
      → next ps ss → OnSources files names next a
  loaded_all [] [] [] next a are h = h
  loaded_all [] [] (s ∷ ss) next a are h = absurd are
  loaded_all [] (p ∷ ps) ss next a are h = absurd are
  loaded_all (n ∷ names) [] ss next a are h = absurd are
  loaded_all (n ∷ names) (p ∷ ps) [] next a are h = absurd are
  loaded_all (n ∷ names) (p ∷ ps) (s ∷ ss) next a are h =
      loaded_one n p s (λ q t. OnSources files names (λ qs ts. next (q ∷ qs) (t ∷ ts)) a) a are.0
      (loaded_all names ps ss (λ qs ts. next (p ∷ qs) (s ∷ ts)) a are.1 h)

-- a reply that refuses a file is none on the words
refused_taken : (file bytes : List ℕ) (a : Answer) → OnProgram file bytes (λ p. ⊥) a → a.status ≢ Words
refused_taken file bytes a (inl (why, cause, is)) = not_words a (refuses (refused_text file bytes why)) is tt
refused_taken file bytes a (inr (p, is, h)) = absurd h

-- what is judged of the bytes that were read of a file
pub judged : (told : Option Files) (file bytes : List ℕ) (before now : ℕ) (result : Result (Vec ℕ Global × Tree × Source) Halt)
    → IfSome told (λ files. bytes ≡ read files file) → now ≡ before → Judges file bytes result → Loads told file before now result
judged told file bytes before now (Ok (kept, p, s)) is same h = (
  told_map told (λ files. bytes ≡ read files file) (λ files. (kept.items ≡ read files file) × IsLoaded files file p (standing_of s))
      (λ files e. (h.0 ∙ e, subst (λ b. IsFileOf b p × IsSource file b p (standing_of s)) e (h.1, h.2))) is,
  same,
)
judged told file bytes before now (Err (halt.Refused reply)) is same h = (
  told_map told (λ files. bytes ≡ read files file) (λ files. OnProgram file (read files file) (λ p. ⊥) (seen reply))
      (λ files e. subst (λ b. OnProgram file b (λ p. ⊥) (seen reply)) e h) is,
  same,
  refused_taken file bytes (seen reply) h,
)
judged told file bytes before now (Err (halt.Stop s)) is same h = subst (λ x. StopIs (λ named. named ≡ file) before now x) (sym h) tt

-- the same, from another count and another shelf that tells the same
halts_from : (P : Files → Answer → Type 0) (reads : List ℕ → Type 0) (told other : Option Files) (before mid now : ℕ) (h : Halt) → other ≡ told → mid ≡ before
    → HaltIs P reads other mid now h → HaltIs P reads told before now h
halts_from P reads told other before mid now h same_told same is =
    subst (λ t. HaltIs P reads t before now h) same_told (subst (λ n. HaltIs P reads other n now h) same is)

-- what is said of what was loaded
pub said : (told : Option Files) (before now : ℕ) (P : Answer → Type 0) (Q : Files → Answer → Type 0) (reads : List ℕ → Type 0) → ((a : Answer) → P a → a.status ≢ Words)
    → IfSome told (λ fs. (a : Answer) → P a → Q fs a) → now ≡ before → (r : Result Reply Halt) → Says P r → Halts Q reads told before now r
said told before now P Q reads taken f same (Ok reply) h =
    (told_map told (λ fs. (a : Answer) → P a → Q fs a) (λ fs. Q fs (seen reply)) (λ fs g. g (seen reply) h) f, same, taken (seen reply) h)
said told before now P Q reads taken f same (Err (halt.Refused reply)) h =
    (told_map told (λ fs. (a : Answer) → P a → Q fs a) (λ fs. Q fs (seen reply)) (λ fs g. g (seen reply) h) f, same, taken (seen reply) h)
said told before now P Q reads taken f same (Err (halt.Stop s)) h = subst (λ x. StopIs reads before now x) (sym h) tt

module _ (told : Option Files) (reads : List ℕ → Type 0) where
  -- what is said of a file that was loaded
  pub of_source : (file bytes : List ℕ) (p : Tree) (s : Standing) (N : List ℕ → Tree → Standing → Answer → Type 0) (before now : ℕ)
      → ((a : Answer) → N bytes p s a → a.status ≢ Words) → IfSome told (λ fs. (bytes ≡ read fs file) × IsLoaded fs file p s) → now ≡ before → (r : Result Reply Halt)
      → Says (λ a. N bytes p s a) r → Halts (λ fs a. OnSource fs file (λ q t. N (read fs file) q t a) a) reads told before now r
  of_source file bytes p s N before now taken is same r says =
      said told before now (N bytes p s) (λ fs a. OnSource fs file (λ q t. N (read fs file) q t a) a) reads taken
      (told_map told (λ fs. (bytes ≡ read fs file) × IsLoaded fs file p s) (λ fs. (a : Answer) → N bytes p s a → OnSource fs file (λ q t. N (read fs file) q t a) a)
      (λ fs h a k. loaded_one fs file p s (λ q t. N (read fs file) q t a) a h.1 (subst (λ b. N b p s a) h.0 k)) is) same r says

  -- the same of several files
  module _ (names : List (List ℕ)) (N : List Tree → List Standing → Answer → Type 0) where
    abbrev Each : Files → Answer → Type 0
    Each fs a = OnSources fs names (λ ps ss. N ps ss a) a

    pub of_sources : (ps : List Tree) (ss : List Standing) (before now : ℕ) → ((a : Answer) → N ps ss a → a.status ≢ Words) → IfSome told (λ fs. AreLoaded fs names ps ss)
        → now ≡ before → (r : Result Reply Halt) → Says (λ a. N ps ss a) r → Halts Each reads told before now r
    of_sources ps ss before now taken are same r says =
        said told before now (N ps ss) Each reads taken
        (told_map told (λ fs. AreLoaded fs names ps ss) (λ fs. (a : Answer) → N ps ss a → Each fs a)
        (λ fs h a k. loaded_all fs names ps ss (λ qs ts. N qs ts a) a h k) are) same r says

    pub all_halt : (before now : ℕ) (h : Halt) → HaltIs (λ fs a. OnSources fs names (λ ps ss. ⊥) a) reads told before now h → HaltIs Each reads told before now h
    all_halt before now (halt.Refused reply) (is, same, taken) = (
      told_map told (λ fs. OnSources fs names (λ ps ss. ⊥) (seen reply)) (λ fs. Each fs (seen reply))
          (λ fs h. refused_all fs names (λ ps ss. N ps ss (seen reply)) (seen reply) h) is,
      same,
      taken,
    )
    all_halt before now (halt.Stop s) h = h

  -- the same of a second file, behind a first one
  module _ (file bytes : List ℕ) (p : Tree) (s : Standing) (before mid : ℕ) (is : IfSome told (λ fs. (bytes ≡ read fs file) × IsLoaded fs file p s)) (same : mid ≡ before)
      (other : Option Files) (same_told : other ≡ told) (second : List ℕ) (N : Tree → Tree → Standing → Answer → Type 0) where
    abbrev Both : Files → Answer → Type 0
    Both fs a = OnSource fs file (λ q t. OnSource fs second (λ u v. N q u v a) a) a

    pub of_second : (more : List ℕ) (u : Tree) (v : Standing) (now : ℕ) → ((a : Answer) → N p u v a → a.status ≢ Words)
        → IfSome other (λ fs. (more ≡ read fs second) × IsLoaded fs second u v) → now ≡ mid → (r : Result Reply Halt) → Says (λ a. N p u v a) r → Halts Both reads told before now r
    of_second more u v now taken loaded unmoved r says =
        said told before now (N p u v) Both reads taken
        (told_both told (λ fs. (bytes ≡ read fs file) × IsLoaded fs file p s) (λ fs. (more ≡ read fs second) × IsLoaded fs second u v) (λ fs. (a : Answer) → N p u v a → Both fs a)
        (λ fs h k a n. loaded_one fs file p s (λ q t. OnSource fs second (λ x y. N q x y a) a) a h.1 (loaded_one fs second u v (λ x y. N p x y a) a k.1 n)) is
        (subst (λ t. IfSome t (λ fs. (more ≡ read fs second) × IsLoaded fs second u v)) same_told loaded)) (unmoved ∙ same) r says

    pub second_halts : (now : ℕ) (h : Halt) → reads second → HaltIs (λ fs a. OnProgram second (read fs second) (λ q. ⊥) a) (λ n. n ≡ second) other mid now h
        → HaltIs Both reads told before now h
    second_halts now (halt.Refused reply) named (refused, unmoved, taken) = (
      told_both told (λ fs. (bytes ≡ read fs file) × IsLoaded fs file p s) (λ fs. OnProgram second (read fs second) (λ q. ⊥) (seen reply)) (λ fs. Both fs (seen reply))
          (λ fs h k. loaded_one fs file p s (λ q t. OnSource fs second (λ x y. N q x y (seen reply)) (seen reply)) (seen reply) h.1
          (refused_one fs second (λ x y. N p x y (seen reply)) (seen reply) k)) is
          (subst (λ t. IfSome t (λ fs. OnProgram second (read fs second) (λ q. ⊥) (seen reply))) same_told refused),
      unmoved ∙ same,
      taken,
    )
    second_halts now (halt.Stop (stop.ReadFault message)) named (rose, (n, e, is_text)) = (subst (λ m. Rose m now) same rose, (n, subst reads (sym e) named, is_text))
    second_halts now (halt.Stop (stop.WriteFault message)) named h = absurd h
    second_halts now (halt.Stop stop.Memory) named h = tt

-- what is settled is decided
pub settled_decides : (ask : Ask) (told : Option Files) (before now : ℕ) (r : Result Reply Halt) (settled : Result Reply Stop) → Settles r settled
    → Halts (λ files a. Comes (Some ask) files a) (MayRead (Some ask) told) told before now r → Decides ask told before now settled
settled_decides ask told before now (Ok reply) settled e (is, same, taken) = subst (λ x. Decides ask told before now x) (sym e) (is, same)
settled_decides ask told before now (Err (halt.Refused reply)) settled e (is, same, taken) = subst (λ x. Decides ask told before now x) (sym e) (is, same)
settled_decides ask told before now (Err (halt.Stop s)) settled e h = subst (λ x. Decides ask told before now x) (sym e) h

pub settled_taken : (Q : Files → Answer → Type 0) (reads : List ℕ → Type 0) (told : Option Files) (before now : ℕ) (r : Result Reply Halt) (settled : Result Reply Stop)
    → Settles r settled → Halts Q reads told before now r → IfOk settled (λ reply. (seen reply).status ≢ Words)
settled_taken Q reads told before now (Ok reply) settled e (is, same, taken) = subst (λ x. IfOk x (λ reply. (seen reply).status ≢ Words)) (sym e) taken
settled_taken Q reads told before now (Err (halt.Refused reply)) settled e (is, same, taken) =
    subst (λ x. IfOk x (λ reply. (seen reply).status ≢ Words)) (sym e) taken
settled_taken Q reads told before now (Err (halt.Stop s)) settled e h = subst (λ x. IfOk x (λ reply. (seen reply).status ≢ Words)) (sym e) tt

-- names that are borrowed, taken one by one
abbrev pub names : List (Bor (List ℕ)) → List (List ℕ)
names xs = map (λ s. s.now) xs

module _ (xs : List (Bor (List ℕ))) (i : ℕ) (d : Bor (List ℕ)) (low : i < length xs) where
  within : i < length (names xs)
  within = subst (λ n. i < n) (sym (length-map xs (λ s. s.now))) low

  here : get_or (names xs) i (get_or xs i d).now ≡ (get_or xs i d).now
  here = get_or-map (λ s. s.now) xs i d (get_or xs i d).now low

  parts : take i (names xs) ++ (get_or xs i d).now ∷ drop (i + 1) (names xs) ≡ names xs
  parts =
      ap (λ ws. take i (names xs) ++ ws) (sym (drop_more (names xs) i (get_or xs i d).now within ∙ ap (λ w. w ∷ drop (i + 1) (names xs)) here))
      ∙ take-append-drop i (names xs)

  -- each of the names may be asked for
  pub served : (serves : List ℕ → Bool) → All (λ n. IsTrue (serves n)) (names xs) → IsTrue (serves (get_or xs i d).now)
  served serves all = subst (λ n. IsTrue (serves n)) here (all i (get_or xs i d).now within)

  module _ (told : Option Files) (ps : List Tree) (ss : List Standing) (are : IfSome told (λ fs. AreLoaded fs (take i (names xs)) ps ss)) where
    more_loaded : (p : Tree) (s : Standing) → IfSome told (λ fs. IsLoaded fs (get_or xs i d).now p s)
        → IfSome told (λ fs. AreLoaded fs (take (i + 1) (names xs)) (ps ++ p ∷ []) (ss ++ s ∷ []))
    more_loaded p s is =
        subst (λ ws. IfSome told (λ fs. AreLoaded fs ws (ps ++ p ∷ []) (ss ++ s ∷ [])))
        (sym (take_more (names xs) i (get_or xs i d).now within ∙ ap (λ w. take i (names xs) ++ w ∷ []) here))
        (told_both told (λ fs. AreLoaded fs (take i (names xs)) ps ss) (λ fs. IsLoaded fs (get_or xs i d).now p s)
        (λ fs. AreLoaded fs (take i (names xs) ++ (get_or xs i d).now ∷ []) (ps ++ p ∷ []) (ss ++ s ∷ []))
        (λ fs before one. one_more fs (take i (names xs)) (get_or xs i d).now ps p ss s before one) are is)

    -- the same of sources, from another shelf that tells the same
    pub loaded_too : (sources : List Source) → ss ≡ map standing_of sources → (other : Option Files) → other ≡ told → (p : Tree) (source : Source) (qs : List Tree)
        (more : List Source) → qs ≡ ps ++ p ∷ [] → more ≡ sources ++ source ∷ [] → (bytes : List ℕ)
        → IfSome other (λ fs. (bytes ≡ read fs (get_or xs i d).now) × IsLoaded fs (get_or xs i d).now p (standing_of source))
        → IfSome told (λ fs. AreLoaded fs (take (i + 1) (names xs)) qs (map standing_of more))
    loaded_too sources stand other same p source qs more ps_are sources_are bytes is =
        let all : map standing_of more ≡ ss ++ standing_of source ∷ [] =
        ap (map standing_of) sources_are ∙ map-append standing_of sources (source ∷ []) ∙ ap (λ ts. ts ++ standing_of source ∷ []) (sym stand) in
        subst (λ ps. IfSome told (λ fs. AreLoaded fs (take (i + 1) (names xs)) ps (map standing_of more))) (sym ps_are)
        (subst (λ ts. IfSome told (λ fs. AreLoaded fs (take (i + 1) (names xs)) (ps ++ p ∷ []) ts)) (sym all)
        (more_loaded p (standing_of source) (subst (λ t. IfSome t (λ fs. IsLoaded fs (get_or xs i d).now p (standing_of source))) same
        (told_map other (λ fs. (bytes ≡ read fs (get_or xs i d).now) × IsLoaded fs (get_or xs i d).now p (standing_of source))
        (λ fs. IsLoaded fs (get_or xs i d).now p (standing_of source)) (λ fs h. h.1) is))))

    next_reached : IsReached told (names xs) (get_or xs i d).now
    next_reached =
        subst (λ ws. IsReached told ws (get_or xs i d).now) parts
        (reached told (take i (names xs)) (drop (i + 1) (names xs)) (get_or xs i d).now ps ss are)

    halts_at : (before now : ℕ) (h : Halt)
        → HaltIs (λ fs a. OnProgram (get_or xs i d).now (read fs (get_or xs i d).now) (λ p. ⊥) a) (λ n. n ≡ (get_or xs i d).now) told before now h
        → HaltIs (λ fs a. OnSources fs (names xs) (λ qs ts. ⊥) a) (IsReached told (names xs)) told before now h
    halts_at before now (halt.Refused reply) (is, same, taken) = (
      subst (λ ws. IfSome told (λ fs. OnSources fs ws (λ qs ts. ⊥) (seen reply))) parts
          (told_both told (λ fs. AreLoaded fs (take i (names xs)) ps ss) (λ fs. OnProgram (get_or xs i d).now (read fs (get_or xs i d).now) (λ p. ⊥) (seen reply))
          (λ fs. OnSources fs (take i (names xs) ++ (get_or xs i d).now ∷ drop (i + 1) (names xs)) (λ qs ts. ⊥) (seen reply))
          (λ fs before refused. past_front fs (take i (names xs)) ((get_or xs i d).now ∷ drop (i + 1) (names xs)) ps ss (seen reply) before
          (refused_one fs (get_or xs i d).now (λ q t. OnSources fs (drop (i + 1) (names xs)) (λ qs ts. ⊥) (seen reply)) (seen reply) refused)) are is),
      same,
      taken,
    )
    halts_at before now (halt.Stop (stop.ReadFault message)) (rose, (file, is, e)) = (
      rose,
      (file, subst (IsReached told (names xs)) (sym is) next_reached, e),
    )
    halts_at before now (halt.Stop (stop.WriteFault message)) h = absurd h
    halts_at before now (halt.Stop stop.Memory) h = tt

    pub halts_too : (other : Option Files) (before mid now : ℕ) (h : Halt) → other ≡ told → mid ≡ before
        → HaltIs (λ fs a. OnProgram (get_or xs i d).now (read fs (get_or xs i d).now) (λ p. ⊥) a) (λ n. n ≡ (get_or xs i d).now) other mid now h
        → HaltIs (λ fs a. OnSources fs (names xs) (λ qs ts. ⊥) a) (IsReached told (names xs)) told before now h
    halts_too other before mid now h same_told same is =
        halts_at before now h
        (halts_from (λ fs a. OnProgram (get_or xs i d).now (read fs (get_or xs i d).now) (λ p. ⊥) a) (λ n. n ≡ (get_or xs i d).now) told other before mid now h same_told same is)
