use Rattle.std.proofs.Common.{◌∙◌, ◌++◌, refl, sym}
use Rattle.config_reader.specs.Lines.{lined}
use Rattle.config_reader.specs.Written.{texts_of}
use Rattle.config_reader.specs.Blocks.{IsKept, place_of}
use Rattle.config_reader.proofs.Called.{IfOk-both}
use Rattle.config_reader.proofs.Adding.{kept_room}
use Rattle.config_reader.proofs.Kept.{start_kept}
use Rattle.config_reader.proofs.WholeLines.{all_read, nothing_read}
use Rattle.config_reader.proofs.reader.read_config.Goals as goal

pub returns-clause-kept : goal.returns-clause-kept
returns-clause-kept c =
    let kept = texts_of c.args.config.now.lists.pairs in
    let text = c.args.text.now in
    let reader = c.new-reader in
    let all = kept ++ lined text in
    IfOk-both c.read_items.result
    (λ done. all_read (texts_of c.read_items.new.config.lists.pairs) c.read_items.new.self.rest.now all)
    (c.read_items.ensures.kept all (rw (reader.ensures.between, reader.ensures.rest) (nothing_read kept text)))
    (c.read_items.ensures.whole refl)

pub returns-clause-reads : goal.returns-clause-reads
returns-clause-reads c = λ none.
    let reader = c.new-reader in
    let kept : IsKept reader.result reader.result.rank c.args.config.now.lists =
    start_kept reader.result c.args.config.now.lists none reader.ensures.start reader.ensures.rank (reader.ensures.between ∙ sym reader.ensures.rest) in
    IfOk-both c.read_items.result (λ done kept same. record { end = place_of c.read_items.new.self kept.rank; read = kept.read; keys = kept.keys })
    (c.read_items.ensures.reads kept) (c.read_items.ensures.reads kept)

pub returns-clause-room : goal.returns-clause-room
returns-clause-room c = λ none.
    let reader = c.new-reader in
    let kept : IsKept reader.result reader.result.rank c.args.config.now.lists =
    start_kept reader.result c.args.config.now.lists none reader.ensures.start reader.ensures.rank (reader.ensures.between ∙ sym reader.ensures.rest) in
    IfOk-both c.read_items.result (λ done kept same. kept_room c.read_items.new.self c.read_items.new.config.lists kept)
    (c.read_items.ensures.reads kept) (c.read_items.ensures.reads kept)
