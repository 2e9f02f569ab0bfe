mod ManyGraphs
mod TwoGraphs
