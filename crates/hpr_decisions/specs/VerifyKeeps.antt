-- What a verdict on an offered program tells.
--
-- AreFourFiles base a b m p q r o == the bytes of four files are accepted, and they spell these programs
-- IsVerifiedFile base a b m       == the bytes of four files spell programs; the graph of the last one's is
--                                    the merged graph of the others', in which the parts that are split off
--                                    are under their new tags, and it keeps the meaning of both variants
-- HasVerified request files       == for `verify`: it is so of the files that it names
-- IsRejectedFile base a b m v     == the bytes of four files spell programs, and v is the verdict on the last
--                                    one's; it isn't that they are the same
-- IsRejected request files bytes  == for `verify` alone: the bytes are the text of such a verdict on the
--                                    files that it names
use Rattle.std.specs.Prelude.{◌≡◌, ◌≢◌, ℕ, List}
use Rattle.hpr_io.specs.Files.{Files, bytes_of}
use Rattle.hpr_syntax.specs.Meaning.{Keeps}
use Rattle.hpr_syntax.specs.Tree.{Tree}
use Rattle.hpr_refusals.specs.Refusals.{IsFileOf}
use Rattle.hpr_verify.specs.declared.verdict.Verdict.{Verdict}
use Rattle.hpr_verify.specs.declared.verdict.Verdict.TheVariants as verdict
use Rattle.hpr_verify.specs.Verdict.{HasSearchedGraph, IsVerdict}
use Rattle.hpr_words.specs.Request.{Request, verify}
use Rattle.hpr_decisions.specs.VerifyFiles.{certificate_text}

pub record AreFourFiles (base a b m : List ℕ) (p q r o : Tree) : Type 0 where
  pub base_is : IsFileOf base p
  pub a_is : IsFileOf a q
  pub b_is : IsFileOf b r
  pub m_is : IsFileOf m o

pub record IsVerifiedFile (base a b m : List ℕ) : Type 0 where
  pub p : Tree
  pub q : Tree
  pub r : Tree
  pub o : Tree
  pub files : AreFourFiles base a b m p q r o
  pub merged : HasSearchedGraph p q r o
  pub keeps : Keeps p q r o

abbrev pub HasVerified : Request → Files → Type 0
HasVerified (verify base a b offered) files = IsVerifiedFile (bytes_of files base) (bytes_of files a) (bytes_of files b) (bytes_of files offered)
HasVerified _ files = Unit {0}

pub record IsRejectedFile (base a b m : List ℕ) (v : Verdict) : Type 0 where
  pub p : Tree
  pub q : Tree
  pub r : Tree
  pub o : Tree
  pub files : AreFourFiles base a b m p q r o
  pub verdict_is : IsVerdict p q r o v
  pub other : v ≢ verdict.Same

abbrev pub IsRejected : Request → Files → List ℕ → Type 0
IsRejected (verify base a b offered) files bytes =
    (v : Verdict) × IsRejectedFile (bytes_of files base) (bytes_of files a) (bytes_of files b) (bytes_of files offered) v × (bytes ≡ certificate_text v)
IsRejected _ files bytes = ⊥
