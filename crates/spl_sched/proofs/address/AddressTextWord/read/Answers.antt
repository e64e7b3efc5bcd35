use Rattle.std.{specs.Option.option_map, proofs.Common.{List, ℕ, Option, ap}}
use Rattle.spl_state.specs.declared.address.Address.{Address}
use Rattle.spl_words.{specs.Words.read_hex_string, proofs.HexDigits.no_length}
use Rattle.spl_sched.proofs.address.AddressTextWord.read.Goals as goal

pub returns-then-not-read_cells : goal.returns-then-not-read_cells
returns-then-not-read_cells c =
    let to : List ℕ → Address = λ bytes. record { 0 = bytes } in
    ap (λ (o : Option (List ℕ)). option_map to o) (no_length (read_hex_string c.args.bytes.now) 35 (c.read_cells.ensures.unread c.if-not-read_cells.true))
