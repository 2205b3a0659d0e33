use Rattle.std.proofs.Common.{◌∙◌, ◌++◌, ap, codes}
use Rattle.it_making.proofs.LineFeeds.{document_feed}
use Rattle.it_making.proofs.PrintedLines.{one_line}
use Rattle.it_making.proofs.statement_text.statement_line.Goals as goal

pub returns : goal.returns
returns c =
    let document = c.in_ok-value.ensures in
    let ended = c.in_ok-push.ensures.items in
    record {
      reads = λ low. rw ended (document_feed c.in_ok-text.text.items _ (record {
        utf8 = c.in_ok-text.ensures.utf8;
        reads = (rw document at c.in_ok-text.ensures.reads_back) low;
      }));
      one_line = record {
        line = c.in_ok-text.text.items;
        text_is = ended;
        no_feed = one_line c.in_ok-text.text.items c.in_ok-text.ensures.compact;
        compact = c.in_ok-text.ensures.compact;
        in_order = rw document at c.in_ok-text.ensures.order;
      };
      text_is = λ whole. ended
          ∙ ap (λ s. s ++ codes "\n") ((rw document at c.in_ok-text.ensures.text) whole);
    }
