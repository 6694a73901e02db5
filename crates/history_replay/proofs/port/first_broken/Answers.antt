use Rattle.std.proofs.Common.{Some, None}
use Rattle.history_driver.specs.Kinds.{kind_of}
use Rattle.history_replay.specs.Verdicts.{opening_of}
use Rattle.history_replay.proofs.Names.{driver-of, no-driver}
use Rattle.history_replay.proofs.Rows.{told-of-row, told-of-end}
use Rattle.history_replay.proofs.Steps.{opened-as}
use Rattle.history_replay.proofs.port.first_broken.Goals as goal

pub unreachable-requires : goal.unreachable-requires
unreachable-requires c = no-driver c.args.report.now.driver (c.named.ensures.none c.in_default.is) (driver-of c.args.processes c.args.report.now c.requires)

pub returns-in-Some-2 : goal.returns-in-Some-2
returns-in-Some-2 c =
    let report = c.args.report.now in
    let port = opening_of c.args.number c.args.processes (kind_of c.in-Some.kind) report in
    let start = c.in_ok-walk.ensures port (opened-as c.args.number c.args.processes (kind_of c.in-Some.kind) report) in (
      kind_of c.in-Some.kind,
      c.in-Some.ensures.some,
      told-of-row port report.journal.rows c.as_slice-rows.result.now c.in_ok-broken.field-0 c.take_all.new.self c.in-Some-2.broken c.as_slice-rows.ensures c.in-Some-2.is
          (c.in_ok-broken.ensures port start),
    )

pub returns-in_default-broken_by_end : goal.returns-in_default-broken_by_end
returns-in_default-broken_by_end c =
    let report = c.args.report.now in
    let port = opening_of c.args.number c.args.processes (kind_of c.in-Some.kind) report in
    let start = c.in_ok-walk.ensures port (opened-as c.args.number c.args.processes (kind_of c.in-Some.kind) report) in (
      kind_of c.in-Some.kind,
      c.in-Some.ensures.some,
      told-of-end port report.journal.rows c.as_slice-rows.result.now c.in_ok-broken.field-0 c.take_all.new.self None c.as_slice-rows.ensures c.in_default-2.is
          (c.in_ok-broken.ensures port start) (λ s at. c.in_default-broken_by_end.ensures port s at),
    )

pub returns : goal.returns
returns c =
    let report = c.args.report.now in
    let port = opening_of c.args.number c.args.processes (kind_of c.in-Some.kind) report in
    let start = c.in_ok-walk.ensures port (opened-as c.args.number c.args.processes (kind_of c.in-Some.kind) report) in (
      kind_of c.in-Some.kind,
      c.in-Some.ensures.some,
      told-of-end port report.journal.rows c.as_slice-rows.result.now c.in_ok-broken.field-0 c.take_all.new.self (Some c.in-Some-broken_by_end.law) c.as_slice-rows.ensures c.in_default-2.is
          (c.in_ok-broken.ensures port start) (λ s at. c.in-Some-broken_by_end.ensures port s at),
    )
