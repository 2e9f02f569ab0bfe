-- How a call ends, in one of four cases, which its status tells apart.
--
-- Change                            == an object before and after a call: how often it had failed, and what
--                                      it took where it tells
-- TookAll bytes c                   == it took all the bytes, and did not fail
-- TookPart bytes c                  == it failed, and took a first part of the bytes, maybe none, but not all
-- Says message err                  == `err` took all of the message or, where a put failed, a first part of
--                                      it
-- Rewriting                         == a store before and after a call: how often it had failed, and which
--                                      files got which bytes in place of which, in order, where it tells
-- Kept w                            == no file got any bytes
-- Rewrote r w                       == the file of r got its bytes, if there is one; and no other file any
-- Ends s P reads before now w out err == the call ends with the status s, by one of
--   answers                            some answer of P: no read and no write failed
--   cut_short                          the same, but a write to `out` failed; no file was to get any bytes
--   unwritten                          the same, but the file that was to get some stays as it was
--   unread                             a read failed, of a file that it reads; before and now are the shelf's
--                                      counts of failures
--   no_memory                          memory ran out
use Rattle.std.specs.Prelude.{◌≡◌, ◌⊎◌, ℕ, List, [], ◌∷◌, ◌++◌, None, Option, Some, option_map}
use Rattle.hpr_io.specs.Counts.{Rose}
use Rattle.hpr_io.specs.Taken.{taken_then, TookStrictPrefix}
use Rattle.hpr_kit.specs.Answer as text
use Rattle.hpr_kit.specs.Answer.{Answer, Rewrite}
use Rattle.hpr_kit.specs.declared.status.Status.{Status}
use Rattle.hpr_kit.specs.declared.status.Status.TheVariants.{Memory, ReadFault, WriteFault}

pub record Change : Type 0 where
  pub before : ℕ
  pub now : ℕ
  pub old : Option (List ℕ)
  pub new : Option (List ℕ)

abbrev pub TookAll : List ℕ → Change → Type 0
TookAll bytes c = (c.now ≡ c.before) × (c.new ≡ taken_then c.old bytes)

abbrev pub TookPart : List ℕ → Change → Type 0
TookPart bytes c = Rose c.before c.now × TookStrictPrefix c.old c.new bytes

abbrev pub Says : List ℕ → Change → Type 0
Says message err = TookAll message err ⊎ TookPart message err

pub record Rewriting : Type 0 where
  pub before : ℕ
  pub now : ℕ
  pub old : Option (List Rewrite)
  pub new : Option (List Rewrite)

abbrev pub Kept : Rewriting → Type 0
Kept w = w.new ≡ w.old

abbrev pub Rewrote : Option Rewrite → Rewriting → Type 0
Rewrote None w = Kept w
Rewrote (Some r) w = w.new ≡ option_map (λ rs. rs ++ r ∷ []) w.old

pub data Ends (s : Status) (P : Answer → Type 0) (reads : List ℕ → Type 0) (before now : ℕ) (w : Rewriting)
    (out err : Change) : Type 0 where
  answers : (a : Answer) → P a → s ≡ a.status → now ≡ before → Rewrote a.rewrite w → w.now ≡ w.before
      → TookAll a.out out → Says a.err err
      → Ends s P reads before now w out err
  cut_short : (a : Answer) → P a → s ≡ WriteFault → now ≡ before → Kept w → TookPart a.out out
      → Says text.cannot_write err
      → Ends s P reads before now w out err
  unwritten : (a : Answer) (r : Rewrite) → P a → a.rewrite ≡ Some r → s ≡ WriteFault → now ≡ before
      → Kept w → Rose w.before w.now → TookAll [] out
      → Says (text.cannot_rewrite r.file) err → Ends s P reads before now w out err
  unread : (file : List ℕ) → reads file → s ≡ ReadFault → Rose before now → Kept w → TookAll [] out
      → Says (text.cannot_read file) err
      → Ends s P reads before now w out err
  no_memory : s ≡ Memory → Kept w → TookAll [] out → Says text.no_memory err
      → Ends s P reads before now w out err
