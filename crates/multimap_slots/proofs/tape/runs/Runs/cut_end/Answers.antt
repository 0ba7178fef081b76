use Rattle.multimap_slots.proofs.tape.runs.Runs.cut_end.Goals as goal

pub returns-clause-cut : goal.returns-clause-cut
returns-clause-cut g c =
    let e = c.cut.ensures in
    rw (← c.self.view_is) (λ i. record { order = e.places i; used = e.used i; capacity = e.capacity i })
