-- What is kept of a mention that was written as a cite.
use Rattle.std.specs.Prelude.{Bool, List, is_some}
use Rattle.value_trees.specs.Child.{Child}
use Rattle.value_trees.specs.Metas.{has_meta}
use Rattle.value_trees.specs.Tree.{find_elem, plain}
use Rattle.value_trees.specs.declared.elem.ElemMeta.{ElemMeta}
use Rattle.mentions_groups.specs.Written.{written_of}
use Rattle.mentions_groups.specs.Shown.{shown_names}
use Rattle.mentions_tables.specs.declared.writer.WrittenMention.{WrittenMention}
use Rattle.driver_writers.specs.declared.cite.Cite.{Cite}
use Rattle.mentions_cited.specs.declared.kept.KeptOfMention.{KeptOfMention}

-- a tree has an element that was rendered for this
abbrev pub shows : ElemMeta → List Child → Bool
shows meta tree = is_some (find_elem (has_meta meta) tree)

-- what is read of a cite, and what is kept of it
abbrev pub written_mention : Cite → WrittenMention KeptOfMention
written_mention cite = record {
  read = written_of cite.children cite.first_name cite.checked_disambiguate;
  kept = record {
    usage = cite.identifier_usage;
    text = plain cite.children;
    names = shown_names cite.children;
    shows_number = shows ElemMeta.CitationNumber cite.children;
    shows_date = shows ElemMeta.Date cite.children;
  };
}
