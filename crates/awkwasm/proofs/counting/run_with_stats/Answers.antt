use Rattle.awkwasm.proofs.counting.run_with_stats.Goals as goal

pub returns-clause-ok : goal.returns-clause-ok
returns-clause-ok c =
    let r = c.in_ok-end.ensures.counted in
    (r.environment, r.order, record { after = r.is.0.after; answers = rw c.as_bytes.ensures.value at r.is.0.answers })
