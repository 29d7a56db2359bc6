use Rattle.daide_reader.proofs.Common.{rules, arith, rest_of}
use Rattle.daide_reader.proofs.CellLemmas.{few_in_cells, rest_on_top, written_cells}
use Rattle.daide_reader.proofs.cells.put.Goals as goal

pub returns-clause-stack : goal.returns-clause-stack
returns-clause-stack g c =
    rest_on_top c.args.top c.put_rest.new.cells c.args.cells.now (rest_of c.args.answer.now) c.cells.result _
    (search rules) (search rules) c.put_rest.ensures c.cells.ensures c.height_after.ensures

pub returns-clause-inside : goal.returns-clause-inside
returns-clause-inside g c =
    let few = few_in_cells (rest_of c.args.answer.now) c.cells.result (search rules) c.cells.ensures in
    let is = c.height_after.ensures in
    let room = c.requires.room in
    omega (arith, few, is, room)

pub returns-clause-written : goal.returns-clause-written
returns-clause-written g c =
    let few = few_in_cells (rest_of c.args.answer.now) c.cells.result (search rules) c.cells.ensures in
    let reach = written_cells c.args.top c.put_rest.new.cells c.args.cells.now c.cells.result (search rules) (search rules)
    c.put_rest.ensures in
    let is = c.height_after.ensures in
    omega (arith, few, is, reach)
