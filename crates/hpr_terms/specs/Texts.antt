-- The texts of what is written inside others. A name's text is the name.
--
-- tag_text t == the text of a tag: author, a dot, serial
use Rattle.std.specs.Prelude.{ℕ, List, ◌++◌, codes}
use Rattle.std.specs.Fmt.{decimal}
use Rattle.hpr_terms.specs.declared.tag.Tag.{Tag}

-- a text with a tag in it has the tag as one piece; its own pieces are seen where it is written and where it
-- is read
unfoldable pub tag_text : Tag → List ℕ
tag_text t = decimal t.author ++ codes "." ++ decimal t.serial
