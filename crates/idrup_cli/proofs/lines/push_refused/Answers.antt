use Rattle.std.proofs.Common.{decimal}
use Rattle.idrup_cli.specs.Report.{side_name, rule_name, rule_detail}
use Rattle.idrup_cli.proofs.Gathered.{refusal_gathered}
use Rattle.idrup_cli.proofs.lines.push_refused.Goals as goal

pub returns-clause-bytes : goal.returns-clause-bytes
returns-clause-bytes c =
    let whole = refusal_gathered c.args.line.now (side_name c.args.side) (decimal c.args.number) (rule_name c.args.rule) (rule_detail c.args.rule) in cc
