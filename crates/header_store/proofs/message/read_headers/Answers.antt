use Rattle.std.proofs.Common.{◌≡◌, false, rules}
use Rattle.header_store.specs.Message.{begins_end}
use Rattle.header_store.proofs.Reading.{one_more}
use Rattle.header_store.proofs.message.read_headers.Goals as goal

pub loop-rest-preserved : goal.loop-rest-preserved
loop-rest-preserved c =
    let goes_on : begins_end c.loop-rest.rest.now ≡ false = search rules in
    λ rest new read. c.loop-rest.invariant rest new
    (one_more _ _ _ _ _ goes_on c.split_header.ensures.lines c.split_header.ensures.behind c.in_default.ensures.read rest new read)
