-- What is told as data of some words and files is told of the same ones.
use Rattle.std.proofs.Common.{◌≡◌, ℕ, List, Some, subst}
use Rattle.hpr_io.specs.Files.{Files}
use Rattle.hpr_words.specs.Request.{Request, Text}
use Rattle.hpr_words.specs.Taken.{taken}
use Rattle.hpr_decisions.specs.Statuses.{DoesIntegrate}
use Rattle.hpr_data.specs.Told.{TellsKept}
use Rattle.hpr_c.specs.Data.{TellsData}

abbrev pub Keeps : List Text → Files → ℕ → List ℕ → Type 0
Keeps texts files number text =
    (request : Request) → taken texts ≡ Some request → DoesIntegrate request → number ≡ 0 → TellsKept request files text

pub same_data : (texts us : List Text) (files gs : Files) (number : ℕ) (text : List ℕ) → us ≡ texts → gs ≡ files
    → TellsData us gs number text → TellsData texts files number text
same_data texts us files gs number text words same told =
    subst (λ (ts : List Text). TellsData ts files number text) words (subst (λ (fs : Files). TellsData us fs number text) same told)

pub same_kept : (texts us : List Text) (files gs : Files) (number : ℕ) (text : List ℕ) → us ≡ texts → gs ≡ files
    → Keeps us gs number text → Keeps texts files number text
same_kept texts us files gs number text words same kept =
    subst (λ (ts : List Text). Keeps ts files number text) words (subst (λ (fs : Files). Keeps us fs number text) same kept)
