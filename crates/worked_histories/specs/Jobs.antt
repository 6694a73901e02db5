-- Histories of jobs: a digest port with two workers.
use Rattle.std.specs.Prelude.{ℕ, List, [], ◌∷◌, ◌++◌}
use Rattle.port_model.specs.declared.signal.Signal.TheVariants.{Close}
use Rattle.port_model.specs.declared.effect.Effect.TheVariants.{Async}
use Rattle.port_model.specs.declared.row.Row.{Row}
use Rattle.driver_model.specs.Calls.{Digest}
use Rattle.port_history.specs.Opening.{Opening}
use Rattle.worked_histories.specs.Rows.{port_of, command, handled, closed, done, late_done}

abbrev pub digest_port : Opening
digest_port = port_of Digest

-- jobs 0 and 1 of key 1 and job 2 of key 2: reversed bytes, a sum, reversed bytes
abbrev pub three_jobs : List Row
three_jobs =
    handled 0 0 (command (1 ∷ 1 ∷ 7 ∷ 8 ∷ [])) (Async 0 1 1 (7 ∷ 8 ∷ []) ∷ [])
    ∷ handled 0 1 (command (1 ∷ 2 ∷ 255 ∷ 255 ∷ [])) (Async 1 1 2 (255 ∷ 255 ∷ []) ∷ [])
    ∷ handled 0 2 (command (2 ∷ 1 ∷ 9 ∷ [])) (Async 2 2 1 (9 ∷ []) ∷ []) ∷ []

abbrev pub sum_of_two : List ℕ
sum_of_two = 0 ∷ 0 ∷ 0 ∷ 0 ∷ 0 ∷ 0 ∷ 1 ∷ 254 ∷ []

-- the results of key 1 in their order
abbrev pub two_results : List Row
two_results = done 1 0 0 (8 ∷ 7 ∷ []) ∷ done 1 1 1 sum_of_two ∷ []

abbrev pub closing : List Row
closing = handled 0 3 Close [] ∷ closed ∷ []

-- the port is closed after two results, and the third is late
abbrev pub digest_of_three : List Row
digest_of_three = three_jobs ++ two_results ++ closing ++ late_done 0 0 2 (9 ∷ []) ∷ []

abbrev pub job_without_its_result : List Row
job_without_its_result = three_jobs ++ two_results ++ closing

abbrev pub results_exchanged : List Row
results_exchanged = three_jobs ++ done 1 0 1 sum_of_two ∷ done 1 1 0 (8 ∷ 7 ∷ []) ∷ []

abbrev pub result_told_twice : List Row
result_told_twice = three_jobs ++ done 1 0 0 (8 ∷ 7 ∷ []) ∷ done 1 1 0 (8 ∷ 7 ∷ []) ∷ []

abbrev pub result_of_no_job : List Row
result_of_no_job = done 1 0 0 (8 ∷ 7 ∷ []) ∷ []

abbrev pub result_of_another_input : List Row
result_of_another_input = three_jobs ++ done 1 0 0 (7 ∷ 8 ∷ []) ∷ []

abbrev pub handled_after_the_stop : List Row
handled_after_the_stop = three_jobs ++ two_results ++ closing ++ done 0 0 2 (9 ∷ []) ∷ []
