use Rattle.std.proofs.Common.{refl}
use Rattle.cite_pieces.specs.declared.piece.Piece.TheVariants.{Text}
use Rattle.cite_pieces.proofs.Levels.{text_inserted}
use Rattle.cite_pieces.proofs.pieces.Pieces.push_suffix.Goals as goal

pub returns-in_ok-insert-in-Some : goal.returns-in_ok-insert-in-Some
returns-in_ok-insert-in-Some c = record {
  edges =
      text_inserted c.insert.result c.insert.new.self.items c.args.self.now.pieces.items c.in-Some.place
      (Text c.in_ok-text-in-Some.text) refl c.insert.ensures.items;
}
