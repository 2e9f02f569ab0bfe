-- What read words ask for.
--
-- ask_of asked == what is asked
use Rattle.std.specs.Prelude.{map}
use Rattle.hprkit_words.specs.Ask.{Ask, affected, conflicts, format, graph, help, impact, merge, place, tag, version}
use Rattle.hprkit_words.specs.declared.asked.Asked.{Asked}
use Rattle.hprkit_words.specs.declared.asked.Asked.TheVariants as asked

abbrev pub ask_of : Asked → Ask
ask_of asked.Help = help
ask_of asked.Version = version
ask_of (asked.Format file form) = format file.now form
ask_of (asked.At file byte) = place file.now byte
ask_of (asked.Tag file author keep) = tag file.now author keep
ask_of (asked.Graph file form) = graph file.now form
ask_of (asked.Impact file points form) = impact file.now (map (λ s. s.now) points.items) form
ask_of (asked.Affected base variant) = affected base.now variant.now
ask_of (asked.Conflicts base variants) = conflicts base.now (map (λ s. s.now) variants.items)
ask_of (asked.Merge base variants tries) = merge base.now (map (λ s. s.now) variants.items) tries
