-- How words and files are handed in as bytes.
--
-- IsText text                        == it is UTF-8, and no byte of it is zero
-- packed texts                       == the texts one after another, each with a zero byte behind it
-- IsPacked bytes texts               == the bytes are these texts, packed
-- IsFirst bytes text rest            == the first of packed texts, and what stands behind its zero byte
-- names_of files, lengths_of files   == the names of files, and how many bytes each has
-- contents_of files                  == their bytes, one after another
-- AreFiles names lengths bytes files == the files have these names, packed, these lengths and bytes
-- IsCall words names lengths bytes texts files == what is handed in is a call with these words over these
--                                                 files
-- IsNoCall words names lengths bytes == there are no such words and files
use Rattle.std.specs.Prelude.{◌≡◌, ℕ, ◌<◌, List, [], ◌∷◌, ◌++◌, length, map}
use Rattle.std.specs.List.{AllByRecursion, flat_map}
use Rattle.std.specs.Str.{IsUtf8}
use Rattle.hpr_io.specs.Files.{Files}
use Rattle.hpr_words.specs.Request.{Text}

abbrev pub IsText : Text → Type 0
IsText text = IsUtf8 text × AllByRecursion (λ byte. 0 < byte) text

abbrev pub packed : List Text → List ℕ
packed texts = flat_map (λ text. text ++ 0 ∷ []) texts

abbrev pub IsPacked : List ℕ → List Text → Type 0
IsPacked bytes texts = AllByRecursion IsText texts × (bytes ≡ packed texts)

abbrev pub IsFirst : List ℕ → Text → List ℕ → Type 0
IsFirst bytes text rest = IsText text × (bytes ≡ text ++ 0 ∷ rest)

abbrev pub names_of : Files → List Text
names_of files = map (λ file. file.0) files

abbrev pub lengths_of : Files → List ℕ
lengths_of files = map (λ file. length file.1) files

abbrev pub contents_of : Files → List ℕ
contents_of files = flat_map (λ file. file.1) files

abbrev pub AreFiles : List ℕ → List ℕ → List ℕ → Files → Type 0
AreFiles names lengths bytes files =
    IsPacked names (names_of files) × (lengths ≡ lengths_of files) × (bytes ≡ contents_of files)

abbrev pub IsCall : (words names lengths bytes : List ℕ) → List Text → Files → Type 0
IsCall words names lengths bytes texts files = IsPacked words texts × AreFiles names lengths bytes files

abbrev pub IsNoCall : (words names lengths bytes : List ℕ) → Type 0
IsNoCall words names lengths bytes =
    (texts : List Text) (files : Files) → IsCall words names lengths bytes texts files → ⊥
