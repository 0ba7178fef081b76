use Rattle.std.proofs.Common.{◌≡◌, ◌++◌, ◌∷◌, [], rules, string_bytes, sym, true≢false}
use Rattle.std.proofs.lemmas.Result.{on_ok_weaker}
use Rattle.query_fields.proofs.Marked.{marked_added}
use Rattle.query_fields.proofs.url.add_marked_query.Goals as goal

pub returns : goal.returns
returns c =
    let pushed : string_bytes c.push.new.self ≡ string_bytes c.args.answers.now ++ 63 ∷ [] = search rules in
    record {
      written =
          on_ok_weaker c.add_query.result
          (marked_added c.args.fields.now.lists.pairs (λ none. true≢false (sym (c.if-is_empty.ensures.empty.1 none)))
          (string_bytes c.args.answers.now) (string_bytes c.push.new.self) (string_bytes c.add_query.new.query) pushed)
          c.add_query.ensures.written;
    }

pub returns-then-is_empty : goal.returns-then-is_empty
returns-then-is_empty c = search rules
