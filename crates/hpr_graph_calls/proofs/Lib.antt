mod ManyGraphs
mod ForestExample
mod WalkExample
