-- `Draft::put_line` meets its contract: the word, the numbers and the line's end, one after another (`line_more`).
use Rattle.lines.proofs.Texts.{room_numbers, line_end, line_more}
use Rattle.lines.proofs.Draft.put_line.Goals as goal

pub put_numbers-requires : goal.put_numbers-requires
put_numbers-requires c =
    let d = c.args.self.now in
    let one = c.put_bytes.new.self in
    room_numbers d.at one.at c.args.word.now c.args.numbers.now d.out.now one.out.now c.requires
    c.put_bytes.ensures.written

pub put_bytes-requires-2 : goal.put_bytes-requires-2
put_bytes-requires-2 c =
    let d = c.args.self.now in
    let one = c.put_bytes.new.self in
    let two = c.put_numbers.new.self in
    line_end d.at one.at c.args.word.now c.args.numbers.now d.out.now one.out.now c.requires
    c.put_bytes.ensures.written
    two.at two.out.now c.put_numbers.ensures.written

pub returns-clause-written : goal.returns-clause-written
returns-clause-written c =
    let d = c.args.self.now in
    let one = c.put_bytes.new.self in
    let two = c.put_numbers.new.self in
    line_more d.at one.at c.args.word.now c.args.numbers.now d.out.now one.out.now c.requires
    c.put_bytes.ensures.written
    two.at two.out.now c.put_numbers.ensures.written c.put_bytes-2.ensures.written
