mod ManyParts
mod ManyPoints
mod ManyConflicts
