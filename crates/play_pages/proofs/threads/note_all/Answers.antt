use Rattle.std.proofs.Common.{refl, arith, Some, Contains, inl}
use Rattle.std.proofs.lemmas.List.Elements.{All-pop, All-contains_itself}
use Rattle.play_pages.proofs.NoteLaws.{notes_more}
use Rattle.play_pages.proofs.threads.note_all.Goals as goal

pub loop-task-init : goal.loop-task-init
loop-task-init c = record {
  len = refl;
  notes = λ task lines e. inl e;
  left = All-contains_itself c.args.done.items;
}

pub loop-task-preserved-then-task-len : goal.loop-task-preserved-then-task-len
loop-task-preserved-then-task-len c =
    let inv = c.loop-task.invariant in
    let done = c.args.done.items in
    let task = c.in-Some.task in
    let lines = c.in-Some.lines in
    let left = All-pop (Contains done) c.loop-task.done.items c.pop.new.self.items (Some (task, lines)) c.in-Some.ensures.items inv.left in
    record {
      len = inv.len;
      notes = notes_more c.args.noted.now.items c.loop-task.noted.items done task lines (omega arith) inv.notes left.1;
      left = left.0;
    }

pub loop-task-preserved-then-task-len-2 : goal.loop-task-preserved-then-task-len-2
loop-task-preserved-then-task-len-2 c =
    let inv = c.loop-task.invariant in
    let done = c.args.done.items in
    let task = c.in-Some.task in
    let lines = c.in-Some.lines in
    let left = All-pop (Contains done) c.loop-task.done.items c.pop.new.self.items (Some (task, lines)) c.in-Some.ensures.items inv.left in
    record {
      len = inv.len;
      notes = notes_more c.args.noted.now.items c.loop-task.noted.items done task lines (omega arith) inv.notes left.1;
      left = left.0;
    }

pub loop-task-preserved-then-task-len-3 : goal.loop-task-preserved-then-task-len-3
loop-task-preserved-then-task-len-3 c =
    let inv = c.loop-task.invariant in
    let done = c.args.done.items in
    let task = c.in-Some.task in
    let lines = c.in-Some.lines in
    let left = All-pop (Contains done) c.loop-task.done.items c.pop.new.self.items (Some (task, lines)) c.in-Some.ensures.items inv.left in
    record {
      len = inv.len;
      notes = notes_more c.args.noted.now.items c.loop-task.noted.items done task lines (omega arith) inv.notes left.1;
      left = left.0;
    }

pub loop-task-preserved-else-task-len : goal.loop-task-preserved-else-task-len
loop-task-preserved-else-task-len c =
    let inv = c.loop-task.invariant in
    let left = All-pop (Contains c.args.done.items) c.loop-task.done.items c.pop.new.self.items (Some (c.in-Some.task, c.in-Some.lines)) c.in-Some.ensures.items inv.left in
    record { len = inv.len; notes = inv.notes; left = left.0 }

pub loop-task-preserved : goal.loop-task-preserved
loop-task-preserved c =
    let inv = c.loop-task.invariant in
    let left = All-pop (Contains c.args.done.items) c.loop-task.done.items c.pop.new.self.items (Some (c.in-Some.task, c.in-Some.lines)) c.in-Some.ensures.items inv.left in
    record { len = inv.len; notes = inv.notes; left = left.0 }
