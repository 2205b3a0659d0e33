use Rattle.itv_cases.proofs.cases.links.+read_folder.Given as goal

abbrev pub decreases-read_folder : goal.decreases-read_folder
decreases-read_folder l = l.depth
