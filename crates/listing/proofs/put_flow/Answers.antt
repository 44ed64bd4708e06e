-- `put_flow`: by the cases of the reading.
use mathlib.Core.Path.{sym, ap, ◌∙◌}
use lib.ListN.{length}
use Rattle.encoding.proofs.Reader.{sheet-broken, sheet-kept, readable_of}
use Rattle.listing.specs.Text.{flow_text}
use Rattle.listing.proofs.Bound.{text-most}
use Rattle.listing.proofs.Texts.{whole-first, refused-text, read-text}
use borrow.Author.Rules.{rules}
use Rattle.listing.proofs.put_flow.Goals as goal

pub put_readable-requires : goal.put_readable-requires
put_readable-requires c =
    (readable_of (sym c.in-Ok.ensures.value), search rules)

pub returns-in-Err : goal.returns-in-Err
returns-in-Err c = let s = c.args.s.now in
    let e = sym c.in-Err.ensures.value in
    let f = whole-first (flow_text s) c.args.out.now (refused-text s (sheet-broken s e)) c.put_refusal.ensures.value c.put_refusal.ensures.out_after in
    let most = text-most s in
    record { value = f.0; out_after = f.1; part = (search rules, f.0 ∙ ap length (sym f.2), f.2) }

pub returns-in-Ok : goal.returns-in-Ok
returns-in-Ok c = let s = c.args.s.now in
    let e = sym c.in-Ok.ensures.value in
    let f = whole-first (flow_text s) c.args.out.now (read-text s (sheet-kept s e).0) c.put_readable.ensures.value c.put_readable.ensures.out_after in
    let most = text-most s in
    record { value = f.0; out_after = f.1; part = (search rules, f.0 ∙ ap length (sym f.2), f.2) }
